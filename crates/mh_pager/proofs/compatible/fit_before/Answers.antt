use Rattle.std.proofs.Common.{below_more, refl, sym, ◌∙◌, arith}
use Rattle.mh_pager.specs.code.ItemLists.{MeetsConditionAt}
use Rattle.mh_pager.proofs.compatible.fit_before.Goals as goal

pub returns-then-not-fit_at : goal.returns-then-not-fit_at
returns-then-not-fit_at g c = ((λ t. cc), (λ h. sym c.if-not-fit_at.true ∙ c.fit_at.ensures.1 (h c.loop-i.i c.loop-i-test.true)))

pub loop-i-preserved : goal.loop-i-preserved
loop-i-preserved g c = below_more (λ k. MeetsConditionAt c.args.left.now c.args.right.now k c.args.j) _ c.loop-i.invariant (c.fit_at.ensures.0 c.if-not-fit_at.false)

pub returns : goal.returns
returns g c = ((λ t k l. c.loop-i.invariant k (omega (arith, c.loop-i-test.false))), (λ h. refl))
