pub mod Pieces
pub mod NoSpaces
