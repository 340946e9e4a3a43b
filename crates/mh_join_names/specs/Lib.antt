pub mod Prelude
pub mod Names
pub mod Faults
pub mod Joining
pub mod code
