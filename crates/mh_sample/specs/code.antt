pub mod Chains
pub mod Offers
pub mod Rows
pub mod Writing
pub mod SampleLexicon
pub mod SampleSentences
