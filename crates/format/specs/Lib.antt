pub mod Blocks
pub mod Opening
pub mod Sizes
pub mod Found
