pub mod SymbolAtDot
pub mod KernelEquality
pub mod UniqueItemList
pub mod RhsInRange
pub mod AppendedItem
pub mod IsMove
