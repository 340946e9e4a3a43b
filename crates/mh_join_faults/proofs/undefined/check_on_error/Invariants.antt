use Rattle.std.proofs.Common.{◌≡◌, drop}
use Rattle.std.specs.List.{flat_map}
use Rattle.mh_join_names.specs.Faults.{meant_by, undefined_in_on_error}
use Rattle.mh_join_names.specs.code.SymbolTables.{meanings_in, formals_in}
use Rattle.mh_join_faults.proofs.undefined.check_on_error.Given as goal

abbrev pub invariant-loop-actuals : goal.invariant-loop-actuals
invariant-loop-actuals l = flat_map (undefined_in_on_error (meant_by (meanings_in l.names) l.file (formals_in l.none))) (drop l.actuals-index l.on_error) ≡ flat_map (undefined_in_on_error (meant_by (meanings_in l.names) l.file (formals_in l.none))) l.on_error
