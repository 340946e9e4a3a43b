pub mod Coming
pub mod Reaching
pub mod code
