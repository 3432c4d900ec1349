pub mod Answering
pub mod Coincide
