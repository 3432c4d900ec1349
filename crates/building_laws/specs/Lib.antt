pub mod Built
pub mod Cut
