use Rattle.std.proofs.Common.{◌≡◌, drop}
use Rattle.std.specs.List.{flat_map}
use Rattle.mh_join_names.specs.Faults.{errors_in_actual}
use Rattle.mh_join_faults.proofs.errors.+errors.Given as goal

abbrev pub invariant-check_actuals-loop-actual : goal.invariant-check_actuals-loop-actual
invariant-check_actuals-loop-actual l = flat_map errors_in_actual (drop l.actual-index l.actuals) ≡ flat_map errors_in_actual l.actuals
