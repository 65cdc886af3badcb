pub mod Absent
pub mod Parts
pub mod Shortening
pub mod Holding
pub mod Streams
pub mod SameForm
pub mod Verdicts
pub mod StreamedLines
pub mod WholeLines
pub mod Spelling
pub mod Refusing
pub mod Joining
pub mod Distinct
pub mod OneText
pub mod EventStreams
mod ReadOrFaulty
