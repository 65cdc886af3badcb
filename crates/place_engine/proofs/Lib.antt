pub mod Saying
mod OfTexts
mod Lines
mod Places
mod PointOrders
mod Behind
mod OfHolding
mod HeldReasons
mod Chains
mod Overlapping
mod RightVerdict
mod Eithers
mod Records
