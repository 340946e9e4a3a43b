pub mod Cycles
pub mod code
pub mod Kept
pub mod Faults
pub mod Inlined
pub mod GrammarOfInstances
pub mod Sentences
