pub mod Openings
pub mod Agreeing
pub mod Refusing
