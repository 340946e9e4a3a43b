use Rattle.std.proofs.Common.{take, drop}
use Rattle.mh_join_faults.proofs.Repeats.{RepeatSearch}
use Rattle.mh_join_faults.proofs.duplicates.check_names.Given as goal

abbrev pub invariant-loop-name : goal.invariant-loop-name
invariant-loop-name l = RepeatSearch l.seen.keys (take l.name-index l.names) (drop l.name-index l.names) l.names
