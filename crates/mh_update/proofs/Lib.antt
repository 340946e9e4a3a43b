pub mod AreComments
pub mod LineWalk
pub mod SentencesByLine
pub mod SameContent
pub mod GeneratedText
pub mod UpdatedAgain
pub mod UpdatedOrUnfit
