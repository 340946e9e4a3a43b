use Rattle.std.proofs.Common.{ℕ, ◌<◌}
use Rattle.mh_lint_states.specs.code.FilledCells.{IsFilledCell}
use Rattle.mh_lint_states.proofs.reductions.has_filled.Given as goal

abbrev pub invariant-loop-token : goal.invariant-loop-token
invariant-loop-token g l = record { none : (z : ℕ) → z < l.token → IsFilledCell l.table l.state l.looks l.production z → ⊥ }
