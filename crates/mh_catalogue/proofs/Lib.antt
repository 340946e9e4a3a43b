mod RowsBelow
