use Rattle.std.proofs.Common.{ℕ, ◌<◌}
use Rattle.mh_inline_unfold.specs.Instances.{Reaches}
use Rattle.mh_inline.proofs.cycles.first_cyclic_by.Given as goal

abbrev pub invariant-loop-number : goal.invariant-loop-number
invariant-loop-number l = (m : ℕ) → m < l.number → Reaches l.expanded.instances m m → ⊥
