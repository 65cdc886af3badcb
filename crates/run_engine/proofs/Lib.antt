mod Told
pub mod Moves
pub mod Leading
mod Stops
pub mod Streamed
mod Rest
mod Decimals
pub mod Texts
pub mod HasTold
pub mod HasCounted
pub mod TraceStops
pub mod Answered
pub mod Standings
pub mod Traced
