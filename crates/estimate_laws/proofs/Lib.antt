pub mod Counts
pub mod Inner
pub mod Bounds
pub mod EqualRows
pub mod Trues
pub mod Witnesses
pub mod Calls
