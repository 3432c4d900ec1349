pub mod Slots
pub mod Ahead
pub mod Runs
pub mod Merging
pub mod Marking
pub mod Start
