pub mod KernelItems
