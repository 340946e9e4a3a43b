pub mod Comments
pub mod CatalogueTexts
pub mod FitsStates
pub mod Automata
pub mod Warnings
pub mod Fitting
