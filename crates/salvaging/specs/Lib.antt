pub mod Salvaging
pub mod Mending
