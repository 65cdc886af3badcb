pub mod Kinds
pub mod SpreadStamps
pub mod Orders
pub mod Parts
pub mod Reasons
pub mod Faults
pub mod Answers
pub mod Seen
