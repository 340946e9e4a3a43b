use Rattle.std.proofs.Common.{arith, inl, inr}
use Rattle.std.proofs.lemmas.Bool.{cases_eq}
use Rattle.mh_inline.proofs.InstanceRanks.{all_ranked}
use Rattle.mh_inline.proofs.ranks.are_ranked.Goals as goal

pub loop-number-preserved : goal.loop-number-preserved
loop-number-preserved c = λ m l. elim (cases_eq m c.loop-number.number) [
  | inl same ↦ rw same (c.in_ok-is_ranked.ensures c.if-not-branch.false)
  | inr other ↦ c.loop-number.invariant m (omega arith)
]

pub returns : goal.returns
returns c = λ _. all_ranked c.args.expanded.now.instances c.args.ranks.now (λ n l. c.loop-number.invariant n (omega (arith, c.loop-number-test.false, c.len-number-end.ensures)))
