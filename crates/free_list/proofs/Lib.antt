pub mod Registers
pub mod Spots
pub mod Steps
pub mod Ways
pub mod Standing
pub mod TakeTurns
pub mod GiveBack
