pub mod PreludeResolved
pub mod PreludeDepth
pub mod CanJoin
pub mod CostsInRange
pub mod JoinedReady
