pub mod Costs
pub mod TokenKinds
pub mod Spelling
pub mod code
pub mod Faults
