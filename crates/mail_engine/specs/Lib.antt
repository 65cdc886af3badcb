pub mod Rows
pub mod Shares
pub mod Posts
pub mod Carriers
pub mod MailTexts
pub mod MailReading
