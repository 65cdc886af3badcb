pub mod Ends
pub mod Leases
pub mod Parts
pub mod Places
pub mod Pools
pub mod Queues
pub mod Words
