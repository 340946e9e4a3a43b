mod BetterCandidate
mod BestCandidate
mod Coming
mod ComingLabel
mod FailsFirst
mod SentenceOf
