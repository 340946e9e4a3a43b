pub mod AcceptedGrammar
mod AreExamined
mod AreShort
mod Examinations
mod FindingsEnd
mod IsBareLine
mod LinesText
mod Opened
mod WrittenPieces
