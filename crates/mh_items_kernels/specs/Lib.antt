pub mod Automaton
pub mod Collection
pub mod Conflicts
pub mod Kernels
pub mod KernelTypes
pub mod code
