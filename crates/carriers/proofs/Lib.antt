pub mod Learning
pub mod Running
pub mod ByDeeds
pub mod Ended
pub mod Alone
pub mod Delivering
pub mod Places
pub mod Together
pub mod Waiting
pub mod Owning
pub mod Emptying
pub mod Shutting
mod SmallRuns
