use Rattle.std.proofs.Common.{◌≡◌, ◌<◌, ℕ, [], length}
use Rattle.std.specs.Prelude.{slice_index_or}
use Rattle.mh_grammar.specs.Plain.{plain_of}
use Rattle.mh_items.specs.code.MoveBuilder.{IsMoveBuilder}
use Rattle.mh_validate_valid.specs.Valid.{HasEdges}
use Rattle.mh_validate.proofs.rows.fill_rows.Given as goal

abbrev pub invariant-loop-state : goal.invariant-loop-state
invariant-loop-state g l = record {
  count : length l.rows.items ≡ l.state;
  each : (s : ℕ) → s < l.state → HasEdges l.grammar l.raw l.kernels s (slice_index_or l.rows.items s []);
  mover : IsMoveBuilder (plain_of l.grammar) l.mover;
}
