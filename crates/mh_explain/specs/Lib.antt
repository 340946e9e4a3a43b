pub mod Explanations
pub mod FirstSentences
pub mod StateActions
pub mod code
