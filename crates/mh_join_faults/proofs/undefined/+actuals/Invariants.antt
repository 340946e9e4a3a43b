use Rattle.std.proofs.Common.{◌≡◌, drop}
use Rattle.std.specs.List.{flat_map}
use Rattle.mh_join_names.specs.Faults.{meant_by, undefined_in_actual}
use Rattle.mh_join_names.specs.code.SymbolTables.{meanings_in, formals_in}
use Rattle.mh_join_faults.proofs.undefined.+actuals.Given as goal

abbrev pub invariant-check_actuals-loop-actual : goal.invariant-check_actuals-loop-actual
invariant-check_actuals-loop-actual l = flat_map (undefined_in_actual l.in_body (meant_by (meanings_in l.names) l.file (formals_in l.formals))) (drop l.actual-index l.actuals) ≡ flat_map (undefined_in_actual l.in_body (meant_by (meanings_in l.names) l.file (formals_in l.formals))) l.actuals
