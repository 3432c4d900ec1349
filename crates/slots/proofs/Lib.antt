pub mod Areas
pub mod Bits
pub mod Items
