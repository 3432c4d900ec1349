pub mod Building
pub mod Promises
pub mod Finishing
pub mod Asking
