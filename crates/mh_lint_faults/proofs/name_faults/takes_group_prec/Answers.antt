use Rattle.std.proofs.Common.{◌≤◌, arith, inl, inr, subst, sym}
use Rattle.std.specs.List.{Contains}
use Rattle.mh_grammar.proofs.Lists.{below_next}
use Rattle.mh_lint_faults.proofs.RoleFaults.{last_decides}
use Rattle.mh_lint_faults.proofs.name_faults.takes_group_prec.Goals as goal

pub loop-alternative-preserved : goal.loop-alternative-preserved
loop-alternative-preserved c = λ n l m. elim (below_next n c.loop-alternative.alternative-counter m) [
  | inl less ↦ c.loop-alternative.invariant n l less
  | inr same ↦ subst (Contains c.args.precs.now.keys) (sym same) (c.has_key.ensures.0 c.if-not-has_key.false)
]

pub returns-then-first-last : goal.returns-then-first-last
returns-then-first-last c =
    let past : c.args.last ≤ c.loop-alternative.alternative-counter = (let a = c.loop-alternative-test.false in omega (arith, a)) in
    last_decides c.args.precs.now.keys c.args.first c.args.last c.loop-alternative.alternative-counter c.has_key-then-first-last.result c.if-first-last.true past c.loop-alternative.invariant c.has_key-then-first-last.ensures
