mod GotoRows
mod LeastLabels
pub mod SpotLabels
mod SpotInvariant
mod SpotLevels
mod SpotNumbers
mod StepsShift
mod Unreached
