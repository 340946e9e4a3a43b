pub mod code
pub mod Versions
