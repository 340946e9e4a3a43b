pub mod StageCalls
pub mod ModeCalls
pub mod OpenedModes
pub mod MayWriteAfter
pub mod Prepared
