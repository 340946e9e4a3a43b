pub mod TableWithoutStates
