pub mod FoundModes
pub mod AllModes
