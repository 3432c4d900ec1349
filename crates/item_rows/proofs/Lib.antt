pub mod ItemRows
pub mod LoneChars
