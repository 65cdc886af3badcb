pub mod Sends
pub mod Rows
mod Prefixes
mod Givings
pub mod Numerals
pub mod Splits
pub mod Digits
pub mod Faults
pub mod FirstWords
pub mod ReadingBack
pub mod Single
pub mod Total
pub mod Listings
pub mod ListingSteps
