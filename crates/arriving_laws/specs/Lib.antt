pub mod Owed
pub mod Cuttings
