pub mod LexemeLengths
pub mod CodeSteps
pub mod Bodies
pub mod LexemeStarts
pub mod Lexing
pub mod LexemeTexts
pub mod InCode
pub mod code
