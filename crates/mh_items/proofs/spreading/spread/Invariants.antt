use Rattle.std.proofs.Common.{◌-◌}
use Rattle.mh_grammar.specs.Plain.{plain_of}
use Rattle.mh_items.specs.code.PendingLooks.{work_left}
use Rattle.mh_items.proofs.AreClosureLooks.{SpreadSoFar}
use Rattle.mh_items.proofs.spreading.spread.Given as goal

abbrev pub invariant-loop-done : goal.invariant-loop-done
invariant-loop-done g l = SpreadSoFar (plain_of l.grammar) l.firsts l.fn.set l.set l.done

abbrev pub decreases-loop-done : goal.decreases-loop-done
decreases-loop-done g l = work_left l.set - l.done
