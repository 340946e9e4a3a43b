pub mod Findings
pub mod WrittenPieces
