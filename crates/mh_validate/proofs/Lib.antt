mod RisingValues
mod LookByName
mod ItemsRead
mod StateKernel
mod FirstKernels
pub mod KernelWithin
pub mod MatchedEdges
pub mod FirstRows
mod Outcomes
pub mod SomeParts
pub mod ValidOrInvalid
