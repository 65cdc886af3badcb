pub mod Squares
pub mod Sums
