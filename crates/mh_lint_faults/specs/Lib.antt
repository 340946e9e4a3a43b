pub mod Stages
pub mod NameFaults
pub mod Terms
pub mod FaultLines
pub mod code
