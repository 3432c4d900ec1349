pub mod Steps
pub mod Growth
pub mod Answered
