pub mod Ordered
pub mod Stored
pub mod Search
pub mod Costs
pub mod code
