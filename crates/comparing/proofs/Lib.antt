pub mod Blocks
pub mod TakenSides
pub mod Tails
pub mod OpenedSides
pub mod Marked
pub mod Answers
pub mod Changed
