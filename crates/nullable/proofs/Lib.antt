pub mod Bits
pub mod Rows
pub mod Number
pub mod Parts
