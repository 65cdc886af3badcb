pub mod PushSteps
pub mod PushStands
pub mod PushTries
pub mod PopSteps
pub mod PopStands
pub mod UnderLock
pub mod PopCalls
pub mod ShutStands
pub mod ShutTries
mod Lines
