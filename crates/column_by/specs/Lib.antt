pub mod Named
pub mod Asked
