mod Whole
pub mod Ways
