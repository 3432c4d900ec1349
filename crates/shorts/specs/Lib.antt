pub mod Shorts
