pub mod Branches
pub mod Feeding
pub mod Outcomes
pub mod Phases
pub mod Positions
pub mod StackSymbols
pub mod Steps
pub mod code
