pub mod Names
pub mod Answers
pub mod ChangedNames
pub mod FormOfLine
pub mod LineForms
pub mod Replies
