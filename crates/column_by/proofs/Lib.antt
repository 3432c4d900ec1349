pub mod Digits
pub mod Listed
