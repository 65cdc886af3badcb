mod Firsts
mod Futures
mod Lists
mod Covering
pub mod Picking
pub mod Rests
pub mod Places
pub mod Limits
pub mod Picks
mod Leading
pub mod Stepping
pub mod Trying
pub mod Counting
mod FewStates
pub mod ByFirst
pub mod Quiet
mod Trades
mod Traded
mod Answering
pub mod Alike
pub mod Spare
pub mod PendingPops
pub mod Counts
pub mod GoingAlone
pub mod EndsFirst
pub mod FirstOfAValue
pub mod Needed
mod Inserting
mod Replies
mod Ordering
mod Merging
mod Walking
pub mod EndingWalks
mod Passing
pub mod GoingOn
pub mod Coming
pub mod Gone
pub mod Rooted
pub mod Reading
pub mod Listing
pub mod Relabelled
pub mod Indices
