use Rattle.std.proofs.Common.{◌≡◌, ◌++◌, drop}
use Rattle.std.specs.Prelude.{flat_map}
use Rattle.mh_explain.specs.StateActions.{shift_line}
use Rattle.mh_explain.proofs.actions.write_shifts.Given as goal

abbrev pub invariant-loop-place : goal.invariant-loop-place
invariant-loop-place l = record {
  rest : l.text.items ++ flat_map (shift_line l.grammar l.state) (drop l.place-index l.places) ≡ l.initial.text.items ++ flat_map (shift_line l.grammar l.state) l.places;
}
