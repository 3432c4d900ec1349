pub mod Areas
pub mod Filling
