pub mod ChangesName
pub mod IsServed
pub mod HasForm
pub mod StepClauses
pub mod AnswerAll
pub mod IsLineAnswered
pub mod TokensOf
