use Rattle.std.proofs.Common.{rules}
use Rattle.std.proofs.lemmas.List.Sorted.{IsNonDecreasingBy-from_sort_by_key}
use Rattle.mh_reach_spots.specs.declared.waiting.RankedSpot.{RankedSpot}
use Rattle.mh_reach_spots.proofs.SpotNumbers.{pairs_ranked}
use Rattle.mh_reach_spots.proofs.numbering.in_order.Goals as goal

pub returns : goal.returns
returns c =
    pairs_ranked c.args.all.now c.args.numbers.now c.in_ok-ranked.ranked.items c.sort_unstable_by_key.new.self.items c.in_ok-ranked.ensures c.sort_unstable_by_key.ensures.permutation
    (IsNonDecreasingBy-from_sort_by_key (λ (r : RankedSpot). r.sentence) _ c.sort_unstable_by_key.ensures.sorted (λ a r q k. search rules))
