pub mod DecidesLine
pub mod DecidesEntries
pub mod MissingTexts
pub mod ErrorTextUnique
pub mod IsFaultless
