pub mod Seen
pub mod TwoLockRuns
pub mod NonBlockingRuns
pub mod Verdicts
pub mod Steps
