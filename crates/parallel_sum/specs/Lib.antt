pub mod Sums
pub mod Levels
