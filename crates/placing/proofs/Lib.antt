pub mod Cutting
pub mod Marking
mod LeavingOut
mod Runs
mod Sooner
mod Parting
mod Staying
mod Keeping
mod Standing
mod BeforeShut
mod NotShut
pub mod Excluding
mod Ranks
pub mod InOrder
pub mod Spreads
mod Pushed
pub mod Risen
pub mod Indices
pub mod Pointing
pub mod Putting
pub mod Whole
