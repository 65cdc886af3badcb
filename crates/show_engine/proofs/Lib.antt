mod Ends
mod Noted
mod Truncations
mod Lookups
mod Shown
mod Links
mod Gives
mod Told
mod RowsBeside
mod ToldFound
mod WholePictures
pub mod Chunks
