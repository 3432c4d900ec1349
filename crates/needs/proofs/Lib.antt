pub mod Encodings
pub mod Lengths
pub mod Limits
pub mod Short
pub mod Wrong
