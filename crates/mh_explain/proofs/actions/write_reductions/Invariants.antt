use Rattle.std.proofs.Common.{◌≡◌, ◌++◌, drop}
use Rattle.mh_explain.specs.StateActions.{reduction_lines}
use Rattle.mh_explain.proofs.actions.write_reductions.Given as goal

abbrev pub invariant-loop-place : goal.invariant-loop-place
invariant-loop-place l = record {
  rest : l.text.items ++ reduction_lines l.grammar (drop l.place-index l.places) ≡ l.initial.text.items ++ reduction_lines l.grammar l.places;
}
