pub mod OneForm
pub mod OneAnswer
pub mod WithoutName
pub mod OthersStay
pub mod IsCommandOf
