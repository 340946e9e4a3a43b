pub mod IsNextFileOfJob
pub mod FilesOfMode
pub mod MessagesFileLines
pub mod OpenedAndRan
pub mod AreMessagesOfBoth
pub mod LooseFiles
pub mod FileBlocks
