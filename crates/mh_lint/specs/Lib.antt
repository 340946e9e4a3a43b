pub mod Built
pub mod Uses
pub mod LevelSources
pub mod MentionWarnings
pub mod Warnings
pub mod NoWarnings
pub mod code
