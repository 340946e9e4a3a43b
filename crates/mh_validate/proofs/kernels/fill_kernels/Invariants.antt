use Rattle.std.proofs.Common.{◌≡◌, ◌<◌, ℕ, length}
use Rattle.std.specs.Prelude.{slice_index_or}
use Rattle.mh_items_kernels.specs.Automaton.{no_kernel}
use Rattle.mh_validate_valid.specs.Valid.{HasKernel}
use Rattle.mh_validate.proofs.kernels.fill_kernels.Given as goal

abbrev pub invariant-loop-state : goal.invariant-loop-state
invariant-loop-state g l = record {
  count : length l.kernels.items ≡ l.state;
  each : (s : ℕ) → s < l.state → HasKernel l.grammar l.raw s (slice_index_or l.kernels.items s no_kernel);
}
