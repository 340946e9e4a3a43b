pub mod MissingStates
pub mod Updates
pub mod NoLineEnds
