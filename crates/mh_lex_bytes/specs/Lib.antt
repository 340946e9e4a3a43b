pub mod Bytes
pub mod Keywords
pub mod Lines
pub mod Words
