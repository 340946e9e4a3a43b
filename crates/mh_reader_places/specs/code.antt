pub mod ScanSteps
pub mod Walks
