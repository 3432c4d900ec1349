pub mod Going
pub mod Laying
pub mod New
pub mod Plain
