pub mod Passages
pub mod Relative
