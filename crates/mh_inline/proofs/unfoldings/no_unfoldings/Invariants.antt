use Rattle.std.proofs.Common.{◌≤◌, ◌-◌, vec_len}
use Rattle.mh_inline.proofs.unfoldings.no_unfoldings.Given as goal

abbrev pub invariant-loop-alloc : goal.invariant-loop-alloc
invariant-loop-alloc l = vec_len l.known ≤ l.count

abbrev pub decreases-loop-alloc : goal.decreases-loop-alloc
decreases-loop-alloc l = l.count - vec_len l.known
