pub mod Shapes
pub mod ChildHeights
pub mod TreeCode
