pub mod Checks
pub mod Compiling
pub mod Texts
pub mod code
