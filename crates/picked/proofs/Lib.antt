pub mod OfKind
pub mod Threads
pub mod Within
