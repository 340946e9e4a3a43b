pub mod ClosedRests
pub mod RestSearch
pub mod SettledWords
pub mod RestRules
pub mod RestNumbers
pub mod RestLevels
