pub mod Needs
pub mod Tests
