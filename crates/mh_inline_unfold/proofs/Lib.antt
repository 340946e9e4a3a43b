pub mod Occurrences
pub mod Monoid
pub mod AddsToList
pub mod InlineProducers
pub mod UniqueUnfoldings
pub mod ChangedUnfoldings
pub mod FileRanks
