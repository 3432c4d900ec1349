pub mod Input
pub mod Text
pub mod Listing
