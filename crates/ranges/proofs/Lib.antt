pub mod Steps
pub mod Recording
pub mod Exactly
