pub mod ScanSteps
pub mod Walks
pub mod MentionsFrom
pub mod ReportsPlace
