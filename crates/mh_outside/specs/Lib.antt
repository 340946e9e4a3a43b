pub mod Faults
pub mod Schedule
pub mod Shelf
pub mod Lines
pub mod Sink
pub mod Fakes
pub mod Adapters
pub mod code
