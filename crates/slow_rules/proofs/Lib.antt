pub mod Runs
pub mod Keys
pub mod Dictionaries
pub mod Columns
