pub mod Comparisons
pub mod Reductions
pub mod ConflictKinds
pub mod AutomatonLines
pub mod code
