pub mod Each
pub mod Rows
pub mod Rules
pub mod Plain
