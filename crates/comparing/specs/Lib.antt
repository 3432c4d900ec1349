pub mod Comparing
pub mod Taken
pub mod Changed
