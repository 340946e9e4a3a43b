pub mod Searched
pub mod ChosenItems
