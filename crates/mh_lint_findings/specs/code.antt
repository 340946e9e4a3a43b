pub mod Cursors
pub mod AppendedLines
pub mod Parts
