pub mod AreTried
pub mod ExpectedAt
pub mod ExpectedTokens
pub mod OverlayStates
pub mod Overshoots
pub mod Reduce
pub mod StatesAfter
