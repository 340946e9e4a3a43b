mod Closes
mod Improves
mod Chain
mod IsLeast
mod ImproveAll
pub mod ShortestUnique
mod Rank
pub mod RhsInRange
pub mod ShortLex
mod AreCandidates
mod IsRow
mod Filter
mod Treats
mod LeastLengths
pub mod RandomUnique
pub mod RandomIsSentence
pub mod TextsInParts
pub mod Verdicts
pub mod SampleLineUnique
pub mod ShortestTextUnique
