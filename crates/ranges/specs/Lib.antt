pub mod Ranges
pub mod Recording
pub mod Exactly
