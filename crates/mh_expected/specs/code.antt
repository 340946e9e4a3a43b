pub mod Overlaid
pub mod Trials
