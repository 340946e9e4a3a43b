pub mod ConflictsAgree
pub mod ActsCompletely
pub mod ClosureItems
pub mod ConflictList
pub mod OneResolution
pub mod AreResolved
pub mod IsResolved
pub mod TableFacts
