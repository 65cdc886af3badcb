pub mod Locked
pub mod Moves
pub mod Steps
pub mod Ends
pub mod Paid
