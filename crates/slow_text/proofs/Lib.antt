pub mod Starts
pub mod Going
