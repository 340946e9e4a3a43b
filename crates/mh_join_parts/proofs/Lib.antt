pub mod AddsDefiningFile
pub mod InsertsRules
pub mod HasMeanings
pub mod AddsAlternatives
