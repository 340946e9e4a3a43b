pub mod code
pub mod Cells
pub mod NoConflicts
pub mod Conflicts
pub mod Holes
pub mod Precedence
pub mod Names
pub mod States
