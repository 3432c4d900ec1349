pub mod Lent
pub mod Powers
pub mod Columns
pub mod BothEngines
