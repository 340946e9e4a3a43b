pub mod Reading
pub mod code
