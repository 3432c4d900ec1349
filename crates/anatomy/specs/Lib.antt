pub mod Tests
pub mod Parts
