use Rattle.std.proofs.Common.{◌≡◌, ◌<◌, ℕ}
use Rattle.std.specs.Prelude.{slice_index_or}
use Rattle.mh_tables_core.specs.Table.{no_state}
use Rattle.mh_tabfile_form.specs.TableContent.{raw_cells}
use Rattle.mh_validate_valid.specs.Valid.{raw_state}
use Rattle.mh_validate_valid.proofs.cells.count_right.Given as goal

abbrev pub invariant-loop-state : goal.invariant-loop-state
invariant-loop-state l = (s : ℕ) → s < l.state → (raw_state l.raw s).cells ≡ raw_cells l.grammar (slice_index_or l.parts s no_state)
