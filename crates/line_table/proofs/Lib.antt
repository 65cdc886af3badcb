pub mod Listing
pub mod Names
