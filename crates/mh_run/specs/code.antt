pub mod Observers
pub mod Reductions
