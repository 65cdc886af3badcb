pub mod Names
pub mod Sections
