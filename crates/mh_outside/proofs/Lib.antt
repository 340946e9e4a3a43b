pub mod Consumes
pub mod FindsLine
pub mod ReadsLine
pub mod PassesOn
