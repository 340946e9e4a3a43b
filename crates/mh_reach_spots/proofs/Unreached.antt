-- Lemmas on the number of spots (pairs of a state and a next token) that the search has not reached: each spot that
-- gets its arrival lowers the number by one or more.
use Rattle.std.proofs.Common.{◌≡◌, ℕ, ◌<◌, [], ◌∷◌, ◌++◌, None}
use Rattle.std.specs.Prelude.{◌^◌}
use Rattle.mh_facts.proofs.SumBelow.{sum_below, total_le, total_less, one_if_absent, bit_le, bit_less, wide, narrow}
use Rattle.mh_reach_words.specs.declared.arrivals.StateAndNext.{StateAndNext}
use Rattle.mh_reach_words.specs.code.Arrivals.{spot}
use Rattle.mh_reach_words.proofs.StateAndNextKeys.{spot_keys}
use Rattle.mh_reach_spots.specs.declared.spots.SpotArrival.{SpotArrival}
use Rattle.mh_reach_spots.specs.code.Spots.{SpotList, arrival_at}

unfoldable pub unreached : SpotList → ℕ
unreached spots = sum_below wide (λ s. sum_below narrow (λ z. one_if_absent (arrival_at spots (spot s z))))

module _ (spots : SpotList) (k : StateAndNext) (f : SpotArrival) where
  pub unreached_less : arrival_at spots k ≡ None → k.state < 2 ^ 32 → k.next < 2 ^ 16 → unreached (spots ++ (k, f) ∷ []) < unreached spots
  unfolding unreached
  unreached_less fresh s z =
      total_less wide k.state _ _ (λ s. total_le narrow _ _ (λ z. bit_le spot_keys spots k f (spot s z))) s
      (total_less narrow k.next _ _ (λ z. bit_le spot_keys spots k f (spot k.state z)) z (bit_less spot_keys spots k f fresh))
