pub mod Utf8
pub mod Sequences
pub mod States
