pub mod Reading
pub mod Spelling
pub mod Writing
pub mod Within
pub mod RoundTrip
pub mod OneSpelling
pub mod Coincide
