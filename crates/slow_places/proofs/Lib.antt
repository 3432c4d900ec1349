pub mod Items
pub mod Runs
pub mod Keys
