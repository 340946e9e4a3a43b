pub mod IsResolved
pub mod EqualRawActions
