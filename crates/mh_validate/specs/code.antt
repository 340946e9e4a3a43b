pub mod FirstRows
pub mod FirstKernels
pub mod MatchedEdges
pub mod LooksAndItems
