pub mod Stages
pub mod Arriving
