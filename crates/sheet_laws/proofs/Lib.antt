pub mod Cases
pub mod Isolated
pub mod Fields
pub mod Laid
pub mod Written
pub mod Rows
pub mod Writer
