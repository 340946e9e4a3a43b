mod FirstLine
pub mod RunComplete
pub mod SplitLines
pub mod RunExact
pub mod BadLineUnique
pub mod ReadingUnique
pub mod RunSound
pub mod ParsedWords
mod TooLargeNumber
