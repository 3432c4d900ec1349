pub mod RunLength
pub mod Stepping
pub mod Pieces
