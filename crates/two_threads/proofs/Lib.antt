mod Orders
mod Makings
pub mod Handing
