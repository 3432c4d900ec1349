pub mod Openings
pub mod Verdicts
