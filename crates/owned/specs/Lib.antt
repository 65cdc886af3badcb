pub mod Owned
pub mod Unended
