pub mod Examination
pub mod code
