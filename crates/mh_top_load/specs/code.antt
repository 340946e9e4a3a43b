pub mod CapitalTokens
pub mod ModuleNames
pub mod GrammarFaultStops
pub mod NextGrammarFile
pub mod UsageFaultStops
