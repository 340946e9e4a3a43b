pub mod ClosedStates
pub mod Marks
pub mod ComparedPairs
pub mod FilledCells
pub mod CompleteItems
pub mod ShownStates
pub mod UnreducedLines
