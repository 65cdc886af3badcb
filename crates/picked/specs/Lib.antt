pub mod AnyValues
pub mod Either
pub mod EitherEnds
pub mod Picked
pub mod Splits
pub mod Values
pub mod Worn
