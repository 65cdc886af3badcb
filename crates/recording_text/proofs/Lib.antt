pub mod EachOf
pub mod Known
pub mod KnownSets
pub mod Spelling
pub mod Steps
pub mod Linear
mod OneReading
mod Shapes
pub mod Longer
mod HeldTexts
