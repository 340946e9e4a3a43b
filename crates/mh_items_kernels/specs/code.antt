pub mod EmptyMarks
pub mod KernelMoves
