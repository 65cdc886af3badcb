pub mod ByEntries
pub mod Dealt
mod FurtherSeats
pub mod MetSeats
pub mod Shares
pub mod Stepping
pub mod TriedCalls
pub mod Tries
pub mod Waiting
