pub mod NoSpaces
mod LineReaders
mod Texts
pub mod OneReading
