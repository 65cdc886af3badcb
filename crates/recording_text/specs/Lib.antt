pub mod Recordings
pub mod RecordingLines
pub mod Numbers
pub mod Shapes
pub mod TextQueues
pub mod RecordingReading
pub mod HeldTexts
