use Rattle.std.proofs.Common.{◌≡◌, ◌++◌, map, take}
use Rattle.mh_inline_unfold.specs.Unfoldings.{joined}
use Rattle.mh_inline_unfold.proofs.choices.add_joined_with_each.Given as goal

abbrev pub invariant-loop-second : goal.invariant-loop-second
invariant-loop-second l = l.all.items ≡ l.initial.all.items ++ map (joined l.first) (take l.second-index l.seconds)
