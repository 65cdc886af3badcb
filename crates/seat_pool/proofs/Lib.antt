pub mod Kept
pub mod Numbers
pub mod Queues
pub mod Sent
