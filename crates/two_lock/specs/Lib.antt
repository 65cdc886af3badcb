pub mod Worn
pub mod Values
pub mod Pushes
pub mod Pops
pub mod Shuts
