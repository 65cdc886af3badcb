pub mod Followed
pub mod Given
pub mod Histories
pub mod Kept
pub mod Pages
pub mod Recipes
pub mod Shown
