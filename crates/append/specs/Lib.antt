pub mod Appending
pub mod Asking
