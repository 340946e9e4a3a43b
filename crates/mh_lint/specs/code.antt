pub mod Uses
pub mod Declarations
pub mod LevelUses
pub mod MentionUses
