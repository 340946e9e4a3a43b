pub mod CanBeValidated
pub mod Outcome
pub mod code
