pub mod code
pub mod Form
pub mod TableContent
