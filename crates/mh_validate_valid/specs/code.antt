pub mod SearchResult
pub mod FirstCells
pub mod MovedItems
pub mod KernelWithin
