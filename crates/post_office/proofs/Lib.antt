mod Closed
mod Dealing
mod OfficeEnds
pub mod Sent
pub mod SharedSends
mod RingRoles
mod Shares
