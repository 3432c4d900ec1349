pub mod Digits
pub mod Counts
