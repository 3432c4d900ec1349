pub mod Lengths
pub mod SlotLoops
pub mod Bits
pub mod Writing
