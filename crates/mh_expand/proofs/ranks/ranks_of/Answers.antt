use Rattle.std.proofs.Common.{◌≡◌, nat_eq, length, take, refl, arith}
use Rattle.std.proofs.lemmas.List.{length-take-le}
use Rattle.indexmap.specs.IndexMap.{get}
use Rattle.mh_grammar.proofs.Lists.{take_step}
use Rattle.mh_expand.proofs.AreRanks.{AreRanks-none}
use Rattle.mh_expand.proofs.ranks.ranks_of.Goals as goal

pub loop-rank-init : goal.loop-rank-init
loop-rank-init c = rw c.requires (AreRanks-none (get nat_eq c.new-ranks.result) (λ n. rw c.new-ranks.ensures.empty refl))

pub loop-rank-preserved : goal.loop-rank-preserved
loop-rank-preserved c =
    let ds = take c.loop-rank.rank c.args.declarations.now in
    let len : length ds ≡ c.loop-rank.rank = length-take-le c.loop-rank.rank c.args.declarations.now (omega arith) in
    rw (take_step c.args.declarations.now c.loop-rank.rank c.index-declarations-rank.result c.loop-rank-test.true c.index-declarations-rank.is, ← c.as_slice.ensures) (c.in_ok-add_ranks.ensures ds len c.loop-rank.invariant)
