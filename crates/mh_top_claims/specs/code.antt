pub mod WorkBeforeLastLine
