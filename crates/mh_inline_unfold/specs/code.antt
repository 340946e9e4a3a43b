pub mod UsedInstances
pub mod Sizes
