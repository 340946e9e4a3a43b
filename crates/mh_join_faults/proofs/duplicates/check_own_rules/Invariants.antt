use Rattle.std.proofs.Common.{take, drop}
use Rattle.mh_join_names.specs.Faults.{own_names}
use Rattle.mh_join_names.specs.code.SymbolTables.{is_public_in}
use Rattle.mh_join_faults.proofs.Repeats.{RepeatSearch}
use Rattle.mh_join_faults.proofs.duplicates.check_own_rules.Given as goal

abbrev pub invariant-loop-rule : goal.invariant-loop-rule
invariant-loop-rule l = RepeatSearch l.seen.keys (own_names (is_public_in l.names l.marked) (take l.rule-index l.rules)) (own_names (is_public_in l.names l.marked) (drop l.rule-index l.rules)) (own_names (is_public_in l.names l.marked) l.rules)
