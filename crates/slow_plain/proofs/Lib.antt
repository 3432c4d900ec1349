pub mod Values
pub mod Pieces
pub mod Refused
