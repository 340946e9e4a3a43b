pub mod PrintedText
pub mod PrintedSpells
pub mod SpellsOrSyntaxLine
