pub mod ParserSteps
pub mod Pieces
pub mod DepthLimit
