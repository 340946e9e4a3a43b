mod NumberAll
mod IsNumberedUpTo
pub mod LongerBook
pub mod MergeSort
mod PartStacks
mod PutsRun
mod IsComparisonStep
pub mod ComparisonOrder
mod WritesPart
pub mod QueueDraws
pub mod LabelOrder
pub mod StateAndNextKeys
