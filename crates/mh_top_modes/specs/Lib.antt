pub mod FileTexts
pub mod JudgingContext
pub mod code
