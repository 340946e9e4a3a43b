pub mod CatalogueFaultStops
pub mod Entries
