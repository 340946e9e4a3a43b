pub mod Stages
pub mod Sentences
pub mod Texts
