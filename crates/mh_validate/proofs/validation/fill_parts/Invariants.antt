use Rattle.std.proofs.Common.{◌≡◌, ◌<◌, ℕ, [], length}
use Rattle.std.specs.Prelude.{slice_index_or}
use Rattle.mh_grammar.specs.Plain.{plain_of}
use Rattle.mh_items.specs.code.ClosureBuilder.{IsClosureBuilder}
use Rattle.mh_tables_core.specs.Table.{no_state}
use Rattle.mh_validate_valid.specs.Valid.{IsResolvedAt}
use Rattle.mh_validate.proofs.validation.fill_parts.Given as goal

abbrev pub invariant-loop-state : goal.invariant-loop-state
invariant-loop-state g l = record {
  count : length l.states.items ≡ l.state;
  each : (s : ℕ) → s < l.state → IsResolvedAt l.grammar l.raw l.kernels s (slice_index_or l.rows s []) (slice_index_or l.states.items s no_state);
  closer : IsClosureBuilder (plain_of l.grammar) l.closer;
}
