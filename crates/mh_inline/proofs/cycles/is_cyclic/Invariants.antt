use Rattle.std.proofs.Common.{◌+◌, ◌-◌, not, count_by, vec_len}
use Rattle.mh_inline.proofs.IsCyclic.{Searched}
use Rattle.mh_inline.proofs.cycles.is_cyclic.Given as goal

abbrev pub invariant-loop-done : goal.invariant-loop-done
invariant-loop-done l = Searched l.expanded.instances l.number l.found l.done

abbrev pub decreases-loop-done : goal.decreases-loop-done
decreases-loop-done l = count_by not l.found.flags.items + vec_len l.found.queue - l.done
