pub mod KeyBlock
