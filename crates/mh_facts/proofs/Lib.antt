mod OrderedEntries
pub mod StoreEntries
pub mod IsPathEnd
pub mod Complete
pub mod StackBuilt
pub mod LeastSentences
pub mod OrderLaws
pub mod Sound
pub mod ListGains
pub mod SumBelow
pub mod Edges
mod FirstElements
pub mod QueueGains
pub mod AssociationLists
mod IsByLeftSide
pub mod FactKeys
pub mod QueueRows
pub mod WordCosts
