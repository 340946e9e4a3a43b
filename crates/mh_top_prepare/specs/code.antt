pub mod SourceFacts
pub mod BuiltSource
pub mod FaultStops
pub mod Warnings
pub mod LastLine
