use Rattle.std.proofs.Common.{rules}
use Rattle.std.proofs.lemmas.List.Sorted.{IsNonDecreasingBy-from_sort_by_key}
use Rattle.mh_reach_rests.specs.declared.settling.RankedWord.{RankedWord}
use Rattle.mh_reach_rests.proofs.RestLevels.{pairs_ranked}
use Rattle.mh_reach_rests.proofs.settling.in_order.Goals as goal

pub returns : goal.returns
returns c =
    pairs_ranked c.args.items.now c.args.numbers.now c.in_ok-ranked.ranked.items c.sort_unstable_by_key.new.self.items c.in_ok-ranked.ensures c.sort_unstable_by_key.ensures.permutation
    (IsNonDecreasingBy-from_sort_by_key (λ (r : RankedWord). r.word) _ c.sort_unstable_by_key.ensures.sorted (λ a r q k. search rules))
