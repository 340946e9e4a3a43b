-- The first states of a file, up to the first one whose cells are wrong.
use Rattle.std.specs.Prelude.{◌≡◌, ◌<◌, ◌≤◌, ℕ, List, length, slice_index_or}
use Rattle.mh_grammar.specs.declared.types.Grammar.{Grammar}
use Rattle.mh_tables_core.specs.declared.parts.StateParts.{StateParts}
use Rattle.mh_tables_core.specs.Table.{no_state}
use Rattle.mh_tabfile_form.specs.declared.types.RawTable.{RawTable}
use Rattle.mh_tabfile_form.specs.TableContent.{raw_cells}
use Rattle.mh_validate_valid.specs.Valid.{raw_state}

-- The first `n` states of the file have the cells or the default action of these parts, and state `n` does not.
pub record AreFirstCells (g : Grammar) (raw : RawTable) (parts : List StateParts) (n : ℕ) : Type 0 where
  pub within : n ≤ length parts
  pub each : (s : ℕ) → s < n → (raw_state raw s).cells ≡ raw_cells g (slice_index_or parts s no_state)
  pub wrong : n < length parts → (raw_state raw n).cells ≡ raw_cells g (slice_index_or parts n no_state) → ⊥
