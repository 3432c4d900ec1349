pub mod Said
pub mod Lent
