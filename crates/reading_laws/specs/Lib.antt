pub mod Samples
pub mod Calls
pub mod Room
