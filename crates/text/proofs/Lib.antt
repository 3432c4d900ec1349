pub mod Inputs
pub mod Numbers
pub mod Laying
pub mod Sample
