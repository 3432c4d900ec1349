pub mod Openings
pub mod BackAndForth
