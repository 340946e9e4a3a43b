pub mod IsSyntaxFault
pub mod SampleModules
pub mod IsGrammarFault
pub mod AreNamesApart
pub mod AreModulesReady
pub mod InstanceNames
pub mod HasFileNames
pub mod StagesToGrammar
