mod FilesRead
pub mod MentionSteps
mod IsContext
pub mod Heads
mod TermText
mod FirstMentions
pub mod SplitFiles
pub mod ContainsKey
mod RuleFaults
mod FaultsWritten
mod RoleFaults
mod IsDefinedAt
mod IsWrongAt
mod ReportsAt
pub mod PositionsWithin
mod FaultsWithin
mod RightArity
mod NamesWritten
mod CleanMentions
mod CleanModule
mod CleanFile
pub mod JoinFaultsHaveLines
mod NameParts
mod NumberTests
mod KeysGained
mod WrongProducers
mod IsSyntaxPlace
pub mod ReadsPlaced
mod FirstPositions
mod FileLines
pub mod FaultLinesUnique
mod HasRuleKinds
