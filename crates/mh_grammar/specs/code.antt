pub mod NameBytes
pub mod Worklist
