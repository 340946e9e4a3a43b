pub mod Lists
pub mod IsPositionMap
pub mod ReportsFirst
pub mod Refs
pub mod Resolved
