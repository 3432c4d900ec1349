pub mod Bits
pub mod Cuts
pub mod Finding
pub mod Marks
pub mod Meeting
pub mod Start
