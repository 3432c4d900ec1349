pub mod KeyBlock
pub mod Block
