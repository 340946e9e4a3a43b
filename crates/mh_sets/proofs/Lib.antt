pub mod TokenSetCalls
pub mod EqualSets
pub mod LooksFrom
pub mod WordBits
pub mod TakeFirst
pub mod LooksOf
