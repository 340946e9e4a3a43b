use Rattle.std.proofs.Common.{subst}
use Rattle.std.proofs.lemmas.Result.{IfOk-weaker}
use Rattle.mh_inline.specs.code.InstanceRanks.{IsRankedAbove}
use Rattle.mh_inline.proofs.InstanceRanks.{no_cycle}
use Rattle.mh_inline.proofs.ranks.is_on_no_cycle.Goals as goal

pub returns : goal.returns
returns c =
    let is = c.args.expanded.now.instances in
    let ranks = c.args.ranks.now in
    let n = c.args.number in
    IfOk-weaker c.is_above.result _ _ (λ above h t. no_cycle is ranks n c.requires.ranks (subst (IsRankedAbove is ranks n) c.rank_of.ensures (h t))) c.is_above.ensures
