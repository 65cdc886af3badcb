pub mod Registers
pub mod Words
pub mod Runs
pub mod Takes
pub mod Gives
