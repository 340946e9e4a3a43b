use Rattle.mh_reach_classes.proofs.AllReductions.{AreReductionsBelow}
use Rattle.mh_reach_classes.proofs.leading_reductions.reductions_to_states.Given as goal

abbrev pub invariant-loop-from : goal.invariant-loop-from
invariant-loop-from l = AreReductionsBelow l.table l.from l.past.keys
