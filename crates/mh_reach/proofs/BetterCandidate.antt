-- Lemmas on the choice between two candidates for the sentence of a state.
use Rattle.std.proofs.Common.{◌≡◌, ◌≤◌, ◌∙◌, ◌+◌, inl, inr, ℕ, Bool, true, false, ◌∷◌, [], Some, None, refl, sym, arith}
use Rattle.std.specs.Prelude.{min}
use Rattle.mh_tables_core.specs.Table.{TableData, cost_of_token}
use Rattle.mh_tables_core.specs.Run.{Refuses, run_move_of}
use Rattle.mh_facts.specs.Costs.{cap}
use Rattle.mh_facts.specs.declared.classes.TokenClasses.{TokenClasses}
use Rattle.mh_reach_words.specs.code.Sorting.{IsLater, LexNoLater}
use Rattle.mh_reach_words.specs.code.Words.{Words}
use Rattle.mh_reach_spots.specs.declared.spots.SpotArrival.{SpotArrival}
use Rattle.mh_reach_spots.specs.code.Spots.{SpotList, arrival_at}
use Rattle.mh_reach.specs.declared.sentences.FailureCandidate.{FailureCandidate}
use Rattle.mh_reach.specs.code.Candidates.{IsBetterOf, IsCandidateOn, best_for, made_of, spot_of}

module _ (t : TableData) (c : TokenClasses) (spots : SpotList) (s z : ℕ) where
  pub no_candidate : arrival_at spots (spot_of c s z) ≡ None → IsCandidateOn t c spots s z None
  no_candidate none r refuses e = (let both : None ≡ Some r = sym none ∙ e in cc)

  same_best : (cost : ℕ) (r : SpotArrival) → cost ≡ min (r.cost + cost_of_token t z) cap → best_for t z r ≡ record { cost = cost; sentence = r.sentence; token = z }
  same_best cost r e = rw e refl

  pub candidate_on : (r : SpotArrival) (cost : ℕ) → run_move_of t s (z ∷ []) ≡ Refuses → arrival_at spots (spot_of c s z) ≡ Some r → cost ≡ min (r.cost + cost_of_token t z) cap → IsCandidateOn t c spots s z (Some (record { cost = cost; sentence = r.sentence; token = z }))
  candidate_on r cost refuses there is = (r, refuses, there, sym (same_best cost r is))

module _ (book : Words) (left right : FailureCandidate) (same : left.cost ≡ right.cost) where
  -- Candidates of the highest cost are not compared.
  pub either_first : cap ≤ left.cost → IsBetterOf book left right left
  either_first ge = inl (refl, inr (same, λ lt. absurd (omega (arith, ge, lt))))

  -- Of two candidates of one cost, the right one is better if the left one comes later; if the left one does not come
  -- later, the left one is better.
  pub right_first : (later : Bool) → IsLater (LexNoLater book) (made_of left) (made_of right) later → later ≡ true → IsBetterOf book left right right
  right_first true later is = inr (refl, inr (sym same, λ lt. later))
  right_first false later is = cc

  pub left_first : (later : Bool) → IsLater (LexNoLater book) (made_of left) (made_of right) later → later ≡ false → IsBetterOf book left right left
  left_first true later is = cc
  left_first false later is = inl (refl, inr (same, λ lt. later))
