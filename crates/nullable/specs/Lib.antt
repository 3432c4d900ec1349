pub mod Nullable
pub mod Blanks
