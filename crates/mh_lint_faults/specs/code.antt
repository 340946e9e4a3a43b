pub mod ReadFiles
pub mod FoundFaults
pub mod Examining
pub mod MentionContexts
pub mod Arguments
pub mod FirstMentions
pub mod Producers
pub mod RuleKinds
