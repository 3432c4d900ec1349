pub mod Columns
pub mod Files
pub mod Loops
pub mod Answers
