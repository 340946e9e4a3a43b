pub mod Decisions
pub mod ErrorLines
pub mod RebasedText
pub mod ReadAgain
pub mod EntryTexts
pub mod code
