pub mod LineSteps
pub mod FileSteps
pub mod LooseSteps
