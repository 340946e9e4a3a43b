pub mod Positions
pub mod Lines
pub mod LinesInOrder
pub mod code
