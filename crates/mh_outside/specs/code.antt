pub mod Written
pub mod Bytes
