pub mod Damaged
pub mod Taken
