-- The fault of a table on which some run may reduce forever. The test by relative runs of at most `MAX_REDUCTIONS`
-- reductions is this project's own.
use Rattle.mh_tables_core.specs.Table.{TableData}
use Rattle.mh_tables_core.specs.Halting.{AlwaysHalts, IsFirstLoop}
use Rattle.mh_tables.specs.declared.checking.HaltFault.{HaltFault}
use Rattle.mh_tables.specs.declared.checking.HaltFault.TheVariants as faults

-- The fault names the first relative run that makes more than `MAX_REDUCTIONS` reductions. `Memory` says nothing about
-- the table.
abbrev pub FaultOf : TableData → HaltFault → Type 0
FaultOf t (faults.Loops below s look) = IsFirstLoop t below s look
FaultOf t faults.Memory = Unit {0}

-- A table with the fault `Loops` does not pass the halting test.
abbrev pub IsRefused : TableData → HaltFault → Type 0
IsRefused t (faults.Loops below s look) = AlwaysHalts t → ⊥
IsRefused t faults.Memory = Unit {0}
