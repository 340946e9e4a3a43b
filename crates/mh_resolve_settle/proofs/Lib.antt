pub mod AreTallied
pub mod IsDecided
pub mod IsErrorReduction
pub mod AreHoles
pub mod AreCells
pub mod AreShifts
pub mod IsTally
