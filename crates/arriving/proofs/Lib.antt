pub mod Stages
pub mod Beginnings
