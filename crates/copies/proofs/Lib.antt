pub mod Growing
pub mod Stretches
pub mod Numbers
pub mod Refused
