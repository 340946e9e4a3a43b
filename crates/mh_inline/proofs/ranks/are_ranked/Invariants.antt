use Rattle.std.proofs.Common.{ℕ, ◌<◌}
use Rattle.mh_inline.specs.code.InstanceRanks.{IsRanked}
use Rattle.mh_inline.proofs.ranks.are_ranked.Given as goal

abbrev pub invariant-loop-number : goal.invariant-loop-number
invariant-loop-number l = (m : ℕ) → m < l.number → IsRanked l.expanded.instances l.ranks m
