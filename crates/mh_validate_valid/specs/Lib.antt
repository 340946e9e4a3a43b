pub mod Valid
pub mod code
