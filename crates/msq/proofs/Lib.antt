pub mod Drawing
pub mod LineNumbers
