pub mod CatalogueRefused
pub mod WriteEntriesLoop
pub mod CountsSample
pub mod RebasedWritten
pub mod ChecksErrors
