pub mod IsTableFault
pub mod IsAutomatonSource
pub mod ResolvedStage
pub mod HasNumberedStates
pub mod StagesToTable
pub mod LastLine
