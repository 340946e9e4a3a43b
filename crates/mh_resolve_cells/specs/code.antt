pub mod ConflictList
pub mod LookTallies
pub mod CellRows
pub mod Tallies
pub mod StateResults
