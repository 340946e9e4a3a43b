pub mod Complete
pub mod code
