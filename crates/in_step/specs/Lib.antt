pub mod Differences
pub mod Walking
