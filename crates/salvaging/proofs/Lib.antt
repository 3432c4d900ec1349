pub mod Outcomes
pub mod TakenParts
pub mod MendedSizes
