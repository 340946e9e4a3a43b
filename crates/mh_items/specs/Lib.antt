pub mod Firsts
pub mod Fitting
pub mod code
