pub mod Spots
pub mod GotoRows
pub mod SpotSteps
pub mod SpotNumbers
pub mod SpotLevels
