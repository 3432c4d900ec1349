pub mod Lists
pub mod Sides
pub mod Walking
pub mod ByItems
