pub mod FailsOnce
pub mod ArePlaces
pub mod IsCompiled
pub mod Missing
pub mod CompiledText
pub mod CheckedOnce
pub mod CompiledOrFault
pub mod FaultLines
