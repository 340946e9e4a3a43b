pub mod Limits
pub mod Expansion
pub mod Sentences
pub mod Terms
pub mod code
