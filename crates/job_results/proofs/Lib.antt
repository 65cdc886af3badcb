pub mod Same
pub mod Found
pub mod JobLines
pub mod OneJobText
