pub mod Given
pub mod Rooms
pub mod Devices
pub mod Answers
pub mod Headline
