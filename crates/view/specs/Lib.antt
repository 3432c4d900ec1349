pub mod Viewing
pub mod Stepwise
