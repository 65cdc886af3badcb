pub mod Ref
pub mod Splits
