pub mod ValidIsAutomaton
pub mod WrittenIsValid
pub mod KernelUnique
pub mod EdgeLists
pub mod ValidFailsNone
pub mod ValidityUnique
pub mod AppendedAt
pub mod RowEnd
pub mod CellLines
pub mod FirstDifference
mod YieldsList
