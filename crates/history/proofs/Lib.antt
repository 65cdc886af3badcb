pub mod Rising
pub mod Placing
pub mod Judging
pub mod Judged
pub mod Finding
pub mod Faulty
pub mod FirstFault
pub mod FirstWrong
pub mod Ordered
pub mod Linearizing
mod TwoOrders
mod SmallOrders
mod Tallying
mod Unplaced
mod OwnOrders
pub mod Learning
pub mod OneProof
pub mod Sums
pub mod Values
pub mod Ending
