use Rattle.std.proofs.Common.{◌≡◌, ◌++◌, map, take, drop}
use Rattle.mh_inline_unfold.specs.Unfoldings.{with_own_prec}
use Rattle.mh_inline_unfold.proofs.choices.own_each.Given as goal

abbrev pub invariant-loop-choice : goal.invariant-loop-choice
invariant-loop-choice l = l.all ≡ map (with_own_prec l.prec) (take l.choice-index l.initial.all) ++ drop l.choice-index l.initial.all
