pub mod ExplanationsUnique
mod FirstWith
mod ChosenItems
mod ExplanationParts
mod SentenceOrder
