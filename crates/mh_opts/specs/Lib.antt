pub mod RepeatedOption
pub mod Options
pub mod App
pub mod Numbers
pub mod Orders
pub mod PosixReading
pub mod GivenOptions
pub mod code
