pub mod Growing
pub mod Long
pub mod Sizing
