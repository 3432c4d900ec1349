pub mod Copies
pub mod Stretch
