pub mod AreMessagesOfBoth
pub mod IsExplained
