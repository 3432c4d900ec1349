pub mod Steps
pub mod Counting
