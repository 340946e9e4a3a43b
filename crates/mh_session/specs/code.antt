pub mod ChangesName
pub mod Forms
pub mod AnswerTexts
