mod Answers
mod BlockHeld
mod Samples
pub mod Coincide
