pub mod Limits
pub mod Instances
pub mod Unfoldings
pub mod FileRanks
pub mod code
