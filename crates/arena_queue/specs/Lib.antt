pub mod Counts
pub mod PushesLeft
pub mod Answers
pub mod Lefts
pub mod Queues
