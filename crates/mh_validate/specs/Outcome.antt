-- The result of validating a table file.
use Rattle.std.specs.Prelude.{◌≡◌, ℕ, Result, Ok, Err}
use Rattle.mh_grammar.specs.declared.types.Grammar.{Grammar}
use Rattle.mh_resolve_cells.specs.States.{IsTableOf}
use Rattle.mh_resolve_cells.specs.Conflicts.{AreConflicts}
use Rattle.mh_tabfile_form.specs.declared.types.RawTable.{RawTable}
use Rattle.mh_validate_valid.specs.Valid.{IsInvalidAt, IsValidFor}
use Rattle.mh_validate.specs.declared.fault.ValidFault.{ValidFault}
use Rattle.mh_validate.specs.declared.fault.ValidFault.TheVariants.{Invalid, Memory}
use Rattle.mh_validate.specs.declared.validation.Valid.{Valid}

-- The fault is the first failing test, unless memory ran out.
abbrev pub IsFault : Grammar → RawTable → ValidFault → Type 0
IsFault g raw (Invalid state reason) = IsInvalidAt g raw state reason
IsFault g raw Memory = Unit {0}

-- The value is the automaton that the file names, with its table and its conflicts.
pub record IsValidResult {W : ℕ} (g : Grammar) (raw : RawTable) (v : Valid W) : Type 0 where
  pub valid : IsValidFor g raw v.automaton v.table.states
  pub table : IsTableOf g v.automaton raw.mode v.table
  pub conflicts : AreConflicts g v.automaton v.conflicts.items
  pub mode : v.mode ≡ raw.mode

abbrev pub IsOutcome : {W : ℕ} → Grammar → RawTable → Result (Valid W) ValidFault → Type 0
IsOutcome g raw (Ok v) = IsValidResult g raw v
IsOutcome g raw (Err fault) = IsFault g raw fault
