pub mod RowsBelow
