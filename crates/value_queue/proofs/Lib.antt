pub mod Learned
pub mod Opened
pub mod Kept
pub mod Pushed
pub mod Popped
pub mod Closings
pub mod Looked
