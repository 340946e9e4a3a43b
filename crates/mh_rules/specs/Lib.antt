pub mod Limits
pub mod Depth
pub mod Modules
pub mod Ready
pub mod Sentences
