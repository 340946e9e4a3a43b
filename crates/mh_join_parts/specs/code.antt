pub mod EmptyTables
pub mod CanJoin
