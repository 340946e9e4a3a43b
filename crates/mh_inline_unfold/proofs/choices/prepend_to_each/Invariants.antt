use Rattle.std.proofs.Common.{◌≡◌, ◌++◌, map, take, drop}
use Rattle.mh_inline_unfold.specs.Unfoldings.{joined}
use Rattle.mh_inline_unfold.proofs.choices.prepend_to_each.Given as goal

abbrev pub invariant-loop-choice : goal.invariant-loop-choice
invariant-loop-choice l = l.all ≡ map (joined l.other) (take l.choice-index l.initial.all) ++ drop l.choice-index l.initial.all
