pub mod Expected
pub mod code
