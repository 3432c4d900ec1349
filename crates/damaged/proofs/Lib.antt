pub mod ButKeys
pub mod HeadNumbers
pub mod Taking
pub mod TakenBlocks
