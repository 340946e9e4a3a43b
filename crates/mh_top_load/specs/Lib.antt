pub mod Texts
pub mod GrammarFile
pub mod GrammarNames
pub mod Modules
pub mod GrammarStage
pub mod Order
pub mod OrderAndGrammar
pub mod code
