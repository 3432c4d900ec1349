pub mod Widths
pub mod Refused
