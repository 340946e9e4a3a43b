pub mod FoundStates
pub mod EdgesOfMoves
