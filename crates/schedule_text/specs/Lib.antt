pub mod Schedules
pub mod Texts
pub mod Readers
pub mod ShortLines
pub mod Streams
pub mod SourceLines
pub mod EventStreams
