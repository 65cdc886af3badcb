pub mod Fresh
pub mod Seated
pub mod Sleepers
