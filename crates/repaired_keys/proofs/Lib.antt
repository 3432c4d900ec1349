pub mod Writing
pub mod KeyItems
pub mod EntriesApart
pub mod AmongWritten
