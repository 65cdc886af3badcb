pub mod Others
pub mod Turns
pub mod Begun
pub mod PushesLeft
pub mod Again
