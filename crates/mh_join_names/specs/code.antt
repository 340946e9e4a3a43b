pub mod Insertions
pub mod DefiningFiles
pub mod KeyLists
pub mod Numbering
pub mod SymbolTables
