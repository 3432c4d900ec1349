pub mod KeyParts
pub mod BlockParts
