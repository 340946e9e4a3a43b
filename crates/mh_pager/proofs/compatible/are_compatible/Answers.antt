use Rattle.std.proofs.Common.{below_more, sym, ◌∙◌}
use Rattle.mh_pager.specs.code.ItemLists.{MeetsConditionBefore}
use Rattle.mh_pager.proofs.compatible.are_compatible.Goals as goal

pub returns-then-not-fit_before : goal.returns-then-not-fit_before
returns-then-not-fit_before g c = ((λ t. cc), (λ h. sym c.if-not-fit_before.true ∙ c.fit_before.ensures.1 (h c.loop-j.j c.loop-j-test.true)))

pub loop-j-preserved : goal.loop-j-preserved
loop-j-preserved g c = below_more (MeetsConditionBefore c.args.left.now c.args.right.now) _ c.loop-j.invariant (c.fit_before.ensures.0 c.if-not-fit_before.false)
