pub mod Slots
pub mod Items
pub mod Passed
pub mod Refusals
