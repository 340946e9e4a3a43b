pub mod KeywordRows
pub mod ByteTests
