pub mod SessionState
pub mod Represents
pub mod Served
pub mod LineAnswers
pub mod code
