pub mod Crews
pub mod Queues
pub mod Works
pub mod Overs
