use Rattle.std.proofs.Common.{◌≡◌, take}
use Rattle.mh_inline_unfold.specs.Unfoldings.{choices}
use Rattle.mh_inline_unfold.proofs.choices.all_choices.Given as goal

abbrev pub invariant-loop-first : goal.invariant-loop-first
invariant-loop-first l = l.all.items ≡ choices (take l.first-index l.left) l.right
