pub mod Exactness
pub mod Example
