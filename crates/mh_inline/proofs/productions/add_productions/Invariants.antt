use Rattle.std.proofs.Common.{◌≡◌, ◌++◌, map, take}
use Rattle.mh_inline_unfold.specs.Unfoldings.{with_own_prec}
use Rattle.mh_inline.specs.code.ProductionParts.{production_by}
use Rattle.mh_inline.proofs.productions.add_productions.Given as goal

abbrev pub invariant-loop-choice : goal.invariant-loop-choice
invariant-loop-choice l = l.productions.items ≡ l.initial.productions.items ++ map (λ u. production_by l.shared.tokens.now l.shared.numbers.now l.shared.lhs (with_own_prec l.shared.prec u)) (take l.choice-index l.unfoldings)
