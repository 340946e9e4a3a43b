use Rattle.std.proofs.Common.{take}
use Rattle.mh_inline_unfold.specs.Unfoldings.{UnfoldsEach}
use Rattle.mh_inline.proofs.unfoldings.unfold_alternatives.Given as goal

abbrev pub invariant-loop-production : goal.invariant-loop-production
invariant-loop-production l = UnfoldsEach l.expanded.instances (take l.production-index l.productions) l.all.items
