pub mod Columns
pub mod Kinds
pub mod Counts
pub mod CountRows
pub mod HistoryTable
pub mod JobKinds
pub mod ResultsTable
