-- Lemmas on the arrivals that follow from a shift, and on the look-up of an arrival.
use Rattle.std.proofs.Common.{◌≡◌, ◌∙◌, ◌+◌, ℕ, List, [], ◌∷◌, Option, Some, None, true, false, refl, sym}
use Rattle.std.specs.Prelude.{min}
use Rattle.std.specs.Option.{is_some}
use Rattle.std.specs.Global.{Vec}
use Rattle.mh_grammar.specs.declared.types.Symbol.TheVariants.{T}
use Rattle.mh_tables_core.specs.Table.{TableData, cost_of_token, state_at}
use Rattle.mh_tables_core.specs.Facts.{Facts}
use Rattle.mh_tables_core.specs.Run.{Shifts, run_move_of}
use Rattle.mh_facts.specs.Costs.{cap}
use Rattle.mh_facts.specs.declared.classes.TokenClasses.{TokenClasses}
use Rattle.mh_facts.specs.code.Queues.{Among, QueueGains}
use Rattle.mh_facts.specs.code.TokenClasses.{rep_of, representatives_at}
use Rattle.mh_facts.proofs.Edges.{edge_there, one_shift, shift_target}
use Rattle.mh_facts.proofs.QueueGains.{gains_by}
use Rattle.mh_reach_words.specs.declared.word_parts.LastPart.TheVariants as lasts
use Rattle.mh_reach_spots.specs.declared.spots.SpotArrival.{SpotArrival}
use Rattle.mh_reach_spots.specs.declared.waiting.SettledSpot.{SettledSpot}
use Rattle.mh_reach_spots.specs.declared.waiting.WaitingSpot.{WaitingSpot}
use Rattle.mh_reach_spots.specs.code.SpotSteps.{StepsAlong, StepsEdge, StepsOn, StepsShift, made_after}

module _ (t : TableData) (c : TokenClasses) (from : SettledSpot) (token end at : ℕ) (like : rep_of c from.spot.state token ≡ from.spot.next) (move : run_move_of t from.spot.state (token ∷ []) ≡ Shifts end) (at_is : at ≡ min (from.cost + cost_of_token t token) cap) where
  pub along_gains : (old new : List (Vec WaitingSpot)) → QueueGains (Among (StepsOn at end (made_after from (lasts.Token token))) (representatives_at c end)) old new → QueueGains (StepsAlong t c from token) old new
  along_gains old new g = gains_by (Among (StepsOn at end (made_after from (lasts.Token token))) (representatives_at c end)) (StepsAlong t c from token) old new
      (λ p o h. record { end = end; following = h.0; token = like; move = move; listed = h.1; cost_is = h.2.0 ∙ at_is; is = h.2.1 })
      (λ p o s.
      let ends : s.end ≡ end = one_shift s.end end (sym s.move ∙ move) in
      (s.following, rw ends at s.listed, (s.cost_is ∙ sym at_is, s.is ∙ rw ends refl)))
      g

module _ (t : TableData) (f : Facts t) (c : TokenClasses) (from : SettledSpot) where
  pub step_gains : (old new : List (Vec WaitingSpot)) → QueueGains (Among (StepsEdge t c from) (state_at t from.spot.state).edges) old new → QueueGains (StepsShift t c from) old new
  step_gains old new g = gains_by (Among (StepsEdge t c from) (state_at t from.spot.state).edges) (StepsShift t c from) old new
      (λ at o h. ((h.2).0, (h.2).2))
      (λ at o s. (record { symbol = T s.0; target = s.1.end }, edge_there t from.spot.state (T s.0) s.1.end (shift_target t f from.spot.state s.0 s.1.end s.1.move), (s.0, refl, s.1)))
      g

pub none_there : (o : Option SpotArrival) {r : Option SpotArrival} → r ≡ o → is_some r ≡ false → o ≡ None
none_there None e h = refl
none_there (Some f) e h = absurd (let y : is_some (Some f) ≡ false = rw e at h in let z : true ≡ false = y in cc)

pub some_there : (o : Option SpotArrival) {r : Option SpotArrival} → r ≡ o → is_some r ≡ true → (f : SpotArrival) × (o ≡ Some f)
some_there None e h = absurd (let y : is_some {T = SpotArrival} None ≡ true = rw e at h in let z : false ≡ true = y in cc)
some_there (Some f) e h = (f, refl)
