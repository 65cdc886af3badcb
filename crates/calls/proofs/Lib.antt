pub mod Kept
pub mod Paths
pub mod Sound
pub mod Goes
pub mod Queue
