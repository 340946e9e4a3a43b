pub mod Rests
pub mod code
