pub mod HistoryText
pub mod HistoryLines
pub mod HistoryReading
