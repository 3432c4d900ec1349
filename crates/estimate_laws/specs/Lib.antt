pub mod Bounds
pub mod Witnesses
pub mod Calls
