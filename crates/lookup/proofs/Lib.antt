pub mod FieldTests
pub mod Passed
pub mod Alike
pub mod Words
pub mod There
