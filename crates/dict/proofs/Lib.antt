pub mod Head
pub mod Slots
pub mod Parts
pub mod Entries
