pub mod FirstState
pub mod CoversPaths
pub mod MergeSteps
pub mod WeakCompatibility
pub mod code
pub mod ReachedConflicts
