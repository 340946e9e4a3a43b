mod PlacesWithin
pub mod AreInOrder
mod IsMoved
pub mod AppendsLines
