pub mod FieldlessStruct
pub mod IsRun
pub mod IsAnswer
pub mod Answers
pub mod HoldsErrorList
