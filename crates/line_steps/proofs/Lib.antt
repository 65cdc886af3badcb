pub mod Padding
pub mod Tables
pub mod Seen
pub mod Freeing
