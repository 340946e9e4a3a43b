use Rattle.std.proofs.Common.{◌≡◌, drop}
use Rattle.std.specs.List.{flat_map}
use Rattle.mh_join_names.specs.Faults.{meant_by, undefined_in_alternative}
use Rattle.mh_join_names.specs.code.SymbolTables.{meanings_in, formals_in}
use Rattle.mh_join_faults.proofs.undefined.check_alternatives.Given as goal

abbrev pub invariant-loop-alternative : goal.invariant-loop-alternative
invariant-loop-alternative l = flat_map (undefined_in_alternative (meanings_in l.names).aliased (meant_by (meanings_in l.names) l.file (formals_in l.formals))) (drop l.alternative-index l.alternatives) ≡ flat_map (undefined_in_alternative (meanings_in l.names).aliased (meant_by (meanings_in l.names) l.file (formals_in l.formals))) l.alternatives
