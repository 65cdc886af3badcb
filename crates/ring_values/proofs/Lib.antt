pub mod Learned
pub mod Pushed
pub mod Popped
pub mod Opened
pub mod Closings
pub mod Looked
pub mod Fronts
pub mod LearnedWords
