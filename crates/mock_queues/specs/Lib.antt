pub mod Full
pub mod Plans
