pub mod Jobs
pub mod Results
pub mod GatheredResults
pub mod Gathers
pub mod JobTexts
pub mod JobReading
