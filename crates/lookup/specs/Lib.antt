pub mod Held
pub mod Asking
pub mod First
