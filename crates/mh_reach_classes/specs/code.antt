pub mod ClassRows
pub mod Reductions
