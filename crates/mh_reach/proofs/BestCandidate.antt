-- Proves that the sentence of the best candidate of a state comes first of all sentences that fail there.
use Rattle.std.proofs.Common.{◌≡◌, ℕ, ◌+◌, ◌<◌, ◌≤◌, inl, inr, List, [], ◌∷◌, ◌++◌, length, Some, None, Option, refl, ap, sym, subst, arith, length-append, ◌∙◌}
use Rattle.std.specs.Prelude.{IfSome, min}
use Rattle.std.proofs.lemmas.Bool.{cases_lt}
use Rattle.mh_grammar.specs.WordOrder.{LexLe}
use Rattle.mh_grammar.proofs.Lists.{get_cases, below_next}
use Rattle.mh_grammar.proofs.WordOrder.{lex_refl}
use Rattle.mh_tables_core.specs.Table.{TableData, cost_of_token}
use Rattle.mh_tables_core.specs.Facts.{Facts}
use Rattle.mh_tables_core.specs.Failing.{Fails, cost_by, cost_of_word}
use Rattle.mh_tables_core.specs.Run.{Refuses, run_move_of}
use Rattle.mh_facts.specs.Costs.{cap}
use Rattle.mh_facts.specs.declared.classes.TokenClasses.{TokenClasses}
use Rattle.mh_facts.specs.code.BestFirst.{Label, extended_label}
use Rattle.mh_facts.specs.code.TokenClasses.{AreTokenClasses, rep_of}
use Rattle.mh_facts.specs.code.WordCosts.{WordNoLater, cost_up_to_cap, weigh}
use Rattle.mh_facts.proofs.LeastSentences.{candidate_fails, fails_candidate}
use Rattle.mh_facts.proofs.WordCosts.{capped_one, min_cap, option_unique, order_laws, weigh_word}
use Rattle.mh_reach_words.specs.code.Words.{Words, spelled}
use Rattle.mh_reach_words.proofs.ComparisonOrder.{no_later_trans}
use Rattle.mh_reach_words.specs.declared.arrivals.StateAndNext.{StateAndNext}
use Rattle.mh_reach_words.specs.code.Arrivals.{LabelNoLater, labels_at}
use Rattle.mh_reach_words.specs.code.SentenceComparison.{numbers_of}
use Rattle.mh_reach_words.proofs.LabelOrder.{both_over, by_numbers, cheaper_at, label_laws}
use Rattle.mh_reach_spots.specs.declared.spots.SpotArrival.{SpotArrival}
use Rattle.mh_reach_spots.specs.declared.spots.Spots.{Spots}
use Rattle.mh_reach_spots.specs.code.Spots.{AreLeastArrivals, IsWordAt, SpotList, arrival_at}
use Rattle.mh_reach_spots.proofs.SpotLabels.{arrived_at, cheap_front}
use Rattle.mh_reach.specs.Reaching.{LeastCost}
use Rattle.mh_reach.specs.declared.sentences.FailureCandidate.{FailureCandidate}
use Rattle.mh_reach.specs.code.Candidates.{AreBest, AreKnownSentences, CostsAreCapped, IsBestAt, IsBestBelow, IsBestCandidate, IsBetterOf, IsBetterOfOptions, IsCandidateOn, IsKnownCandidate, IsNoWorse, IsReachResult, best_for, made_of, spot_of}
use Rattle.mh_reach.proofs.ComingLabel.{coming_at, in_order, no_dearer_to}

pub best_begins : (t : TableData) (c : TokenClasses) (book : Words) (spots : SpotList) (s : ℕ) → IsBestBelow t c book spots s 0 None
best_begins t c book spots s z r lt refuses e = absurd (omega arith)

module _ (book : Words) where
  leads_same : (a : FailureCandidate) → IsNoWorse book a a
  leads_same a = inr (refl, λ lt. lex_refl (spelled book (made_of a)))

  leads_after : (a b d : FailureCandidate) → IsNoWorse book a b → IsNoWorse book b d → IsNoWorse book a d
  leads_after a b d (inl h) (inl k) = inl (omega arith)
  leads_after a b d (inl h) (inr k) = inl (let e = k.0 in omega arith)
  leads_after a b d (inr h) (inl k) = inl (let e = h.0 in omega arith)
  leads_after a b d (inr h) (inr k) = inr (h.0 ∙ k.0, λ lt. no_later_trans book (made_of a) (made_of b) (made_of d) (h.1 lt) (k.1 (rw (sym h.0) lt)))

-- The parts of a candidate are in the book.
pub candidate_known : (t : TableData) (c : TokenClasses) (book : Words) (spots : SpotList) → AreKnownSentences book spots → CostsAreCapped spots → (s z : ℕ) (best : Option FailureCandidate) → IsCandidateOn t c spots s z best → IfSome best (IsKnownCandidate book)
candidate_known t c book spots known capped s z None on = tt
candidate_known t c book spots known capped s z (Some b) on = λ lt. (
    let r = on.0 in
    let cost : b.cost ≡ min (r.cost + cost_of_token t z) cap = ap (λ (x : FailureCandidate). x.cost) on.3 in
    let sentence : b.sentence ≡ r.sentence = ap (λ (x : FailureCandidate). x.sentence) on.3 in
    let less : min (r.cost + cost_of_token t z) cap < cap = rw cost at lt in
    let cheap : r.cost < cap = cheap_front r.cost (cost_of_token t z) (capped (spot_of c s z) r on.2) less in
    let there : b.sentence < length book = rw sentence (known (spot_of c s z) r on.2 cheap) in
    (there, tt))

module _ (t : TableData) (c : TokenClasses) (book : Words) (spots : SpotList) (s n : ℕ) where
  same_for : (r : SpotArrival) (b : FailureCandidate) (h : IsCandidateOn t c spots s n (Some b)) → arrival_at spots (spot_of c s n) ≡ Some r → best_for t n r ≡ b
  same_for r b h e = let one : h.0 ≡ r = option_unique _ h.0 r h.2 e in rw (← one) (sym h.3)

  pub some_known : AreKnownSentences book spots → CostsAreCapped spots → (best : Option FailureCandidate) → IsBestBelow t c book spots s n best → IfSome best (IsKnownCandidate book)
  some_known known capped None h = tt
  some_known known capped (Some b) h = candidate_known t c book spots known capped s (h.1).0 (Some b) (h.1).2

  both_goes : (a b x : FailureCandidate) → IsBestBelow t c book spots s n (Some a) → IsCandidateOn t c spots s n (Some b) → IsBetterOf book a b x → IsBestBelow t c book spots s (n + 1) (Some x)
  both_goes a b x h k (inl (is, first)) = rw is (
    λ z r lt refuses there. elim (below_next z n lt) [
      | inl l ↦ h.0 z r l refuses there
      | inr e ↦ rw e (subst (λ (x : FailureCandidate). IsNoWorse book a x) (sym (same_for r b k (rw e at there))) first)
    ],
    ((h.1).0, (let l = (h.1).1 in omega arith), (h.1).2),
  )
  both_goes a b x h k (inr (is, first)) = rw is (
    λ z r lt refuses there. elim (below_next z n lt) [
      | inl l ↦ leads_after book b a (best_for t z r) first (h.0 z r l refuses there)
      | inr e ↦ rw e (subst (λ (x : FailureCandidate). IsNoWorse book b x) (sym (same_for r b k (rw e at there))) (leads_same book b))
    ],
    (n, omega arith, k),
  )

  pub best_step : (a b best : Option FailureCandidate) → IsBestBelow t c book spots s n a → IsCandidateOn t c spots s n b → IsBetterOfOptions book a b best → IsBestBelow t c book spots s (n + 1) best
  best_step None None best h k is = rw is (λ z r lt refuses e. elim (below_next z n lt) [ inl l ↦ h z r l refuses e | inr at ↦ k r (rw at at refuses) (rw at at e) ])
  best_step None (Some b) best h k is = rw is (
    λ z r lt refuses e. elim (below_next z n lt) [ inl l ↦ absurd (h z r l refuses e) | inr at ↦ rw at (subst (λ (x : FailureCandidate). IsNoWorse book b x) (sym (same_for r b k (rw at at e))) (leads_same book b)) ],
    (n, omega arith, k),
  )
  best_step (Some a) None best h k is = rw is (
    λ z r lt refuses e. elim (below_next z n lt) [ inl l ↦ h.0 z r l refuses e | inr at ↦ absurd (k r (rw at at refuses) (rw at at e)) ],
    ((h.1).0, (let l = (h.1).1 in omega arith), (h.1).2),
  )
  best_step (Some a) (Some b) best h k is = rw is.1 (both_goes a b is.0 h k is.2)

-- The cost of a failing sentence by `weigh` is its cost by the table, up to the highest cost.
pub capped_cost : (t : TableData) (f : Facts t) (s i : ℕ) (w : List ℕ) → Fails t i w s → cost_up_to_cap t w ≡ min (cost_of_word t w) cap
capped_cost t f s i w fails = ap (λ (n : ℕ). min n cap) (weigh_word t f w fails.sentence.tokens)

module _ (t : TableData) (f : Facts t) (c : TokenClasses) (spots : Spots) (h : AreLeastArrivals t c spots) where
  abbrev rep : ℕ → ℕ → ℕ
  rep = rep_of c

  abbrev labels : StateAndNext → Option Label
  labels = h.label_assignment.labels

  abbrev book : Words
  book = spots.book

  pub costs_are_capped : CostsAreCapped spots.spots
  costs_are_capped k r e = let g = h.label_assignment.some k r e in let m = min_cap (cost_by (weigh t) g.label.word) in let is = g.cost_is in omega (arith, is, m)

  pub sentences_are_known : AreKnownSentences spots.book spots.spots
  sentences_are_known k r e lt = ((h.label_assignment.some k r e).numbered lt).known

  -- The state s is reached with the token z next, and refuses z.
  record RefusedArrival (s z : ℕ) : Type 0 where
    known : z < t.grammar.tokens
    refuses : run_move_of t s (z ∷ []) ≡ Refuses
    arrival : SpotArrival
    arrival_is : arrival_at spots.spots (spot_of c s z) ≡ Some arrival
    label : Label
    cost_is : arrival.cost ≡ cost_up_to_cap t label.word
    numbered : arrival.cost < cap → IsWordAt book arrival.sentence (numbers_of label)

  -- For each failing sentence there is a candidate that is no later.
  candidate : (s i : ℕ) (w : List ℕ) → Fails t i w s → (z : ℕ) × (k : RefusedArrival s z) × LabelNoLater t (extended_label k.label (z ∷ [])) (record { start = i; word = w })
  candidate s i w fails =
      let got = fails_candidate t f rep (WordNoLater t) (LabelNoLater t) (order_laws t) (label_laws t) (labels_at labels) h.complete i s w fails in
      let z = got.0 in
      let l = got.1 in
      let there = arrived_at t book spots.spots h.label_assignment (spot_of c s z) l got.2.reached_at in
      let g = h.label_assignment.some (spot_of c s z) there.0 there.1 in
      let one : g.label ≡ l = option_unique _ g.label l g.is got.2.reached_at in
      (z, record { known = got.2.known; refuses = got.2.refuses; arrival = there.0; arrival_is = there.1; label = l; cost_is = rw one at g.cost_is; numbered = λ lt. rw one at (g.numbered lt) }, got.3)

  -- The parts of a candidate spell its sentence.
  spells : (b : FailureCandidate) (l : Label) → IsWordAt book b.sentence (numbers_of l) → spelled book (made_of b) ≡ numbers_of (extended_label l (b.token ∷ []))
  spells b l at = ap (λ (w : List ℕ). w ++ b.token ∷ []) at.is

  -- A candidate that is no worse than another, by cost and sentence, has a label that comes no later.
  leads_label : (a b : FailureCandidate) (k l : Label) → a.cost ≡ cost_up_to_cap t (extended_label k (a.token ∷ [])).word → b.cost ≡ cost_up_to_cap t (extended_label l (b.token ∷ [])).word → (a.cost < cap → IsWordAt book a.sentence (numbers_of k)) → (b.cost < cap → IsWordAt book b.sentence (numbers_of l)) → IsNoWorse book a b
      → LabelNoLater t (extended_label k (a.token ∷ [])) (extended_label l (b.token ∷ []))
  leads_label a b k l e g at at' (inl lt) = cheaper_at t (extended_label k (a.token ∷ [])) (extended_label l (b.token ∷ [])) a.cost b.cost e g lt
  leads_label a b k l e g at at' (inr (same, first)) = elim (cases_lt a.cost cap) [
    | inl lt ↦ (
        let less : b.cost < cap = rw (sym same) lt in
        let order : LexLe (numbers_of (extended_label k (a.token ∷ []))) (numbers_of (extended_label l (b.token ∷ []))) = rw (spells a k (at lt), spells b l (at' less)) at (first lt) in
        by_numbers t (extended_label k (a.token ∷ [])) (extended_label l (b.token ∷ [])) a.cost lt e (same ∙ g) order)
    | inr ge ↦ both_over t (extended_label k (a.token ∷ [])) (extended_label l (b.token ∷ [])) a.cost ge e (same ∙ g)
  ]

  -- The number of a candidate's sentence, by that of its arrival.
  numbered_for : (z : ℕ) (r : SpotArrival) (l : Label) → r.cost ≤ cap → (r.cost < cap → IsWordAt book r.sentence (numbers_of l)) → (best_for t z r).cost < cap → IsWordAt book r.sentence (numbers_of l)
  numbered_for z r l le at lt = at (cheap_front r.cost (cost_of_token t z) le lt)

  pub best_at : (s : ℕ) (b : Option FailureCandidate) → IsBestBelow t c book spots.spots s t.grammar.tokens b → IsBestAt t book s b
  best_at s None none = λ fails. (let x = candidate s fails.0 fails.1 fails.2 in none x.0 x.1.arrival x.1.known x.1.refuses x.1.arrival_is)
  best_at s (Some b) best =
      let o = best.1 in
      let z = o.0 in
      let on = o.2 in
      let r = on.0 in
      let g = h.label_assignment.some (spot_of c s z) r on.2 in
      let l = g.label in
      let fails : Fails t l.start (l.word ++ z ∷ []) s = candidate_fails t f rep (labels_at labels) (λ a y k e. h.sound a y k e) s z l (record { known = o.1; refuses = on.1; reached_at = g.is }) in
      let weighs : min (r.cost + cost_of_token t z) cap ≡ cost_up_to_cap t (extended_label l (z ∷ [])).word = capped_one t f l.word z r.cost o.1 g.cost_is in
      let number = numbered_for z r l (costs_are_capped (spot_of c s z) r on.2) g.numbered in
      let each = best.0 in
      rw on.3 (record {
        label = l;
        numbered = number;
        fails = fails;
        cost_is = weighs ∙ capped_cost t f s l.start (l.word ++ z ∷ []) fails;
        first = λ i w other. (
            let x = candidate s i w other in
            let k = x.1 in
            let lead : IsNoWorse book (best_for t z r) (best_for t x.0 k.arrival) = rw on.3 at (each x.0 k.arrival k.known k.refuses k.arrival_is) in
            let one : LabelNoLater t (extended_label l (z ∷ [])) (extended_label k.label (x.0 ∷ [])) =
            leads_label (best_for t z r) (best_for t x.0 k.arrival) l k.label weighs (capped_one t f k.label.word x.0 k.arrival.cost k.known k.cost_is) number (numbered_for x.0 k.arrival k.label (costs_are_capped (spot_of c s x.0) k.arrival k.arrival_is) k.numbered) lead in
            let all : LabelNoLater t (extended_label l (z ∷ [])) (record { start = i; word = w }) = (label_laws t).transitive (extended_label l (z ∷ [])) (extended_label k.label (x.0 ∷ [])) (record { start = i; word = w }) one x.2 in
            in_order t f (extended_label l (z ∷ [])) (record { start = i; word = w }) fails.sentence.tokens other.sentence.tokens all);
      })

  pub is_reach : AreTokenClasses t c → (best : List (Option FailureCandidate)) → AreBest t c spots.book spots.spots (length t.states) best → IsReachResult t c spots best
  is_reach classes best a = record {
    sized = classes.sized;
    label_assignment = h.label_assignment;
    len = a.len;
    each = λ s b e. best_at s b (a.each s b e);
    comings = coming_at t f c spots h;
  }

pub least_cost : (t : TableData) (book : Words) (s : ℕ) (b : FailureCandidate) → IsBestCandidate t book s b → LeastCost t s (Some b.cost)
least_cost t book s b h = (
  λ i w fails. (let le = no_dearer_to t h.label.start (h.label.word ++ b.token ∷ []) i w (h.first i w fails) in let e = h.cost_is in omega (arith, le, e)),
  (h.label.start, h.label.word ++ b.token ∷ [], h.fails, h.cost_is),
)

pub all_begin : (t : TableData) (c : TokenClasses) (book : Words) (spots : SpotList) → AreBest t c book spots 0 []
all_begin t c book spots = record { len = refl; each = λ s b e. absurd (let y : None ≡ Some b = e in cc) }

pub all_step : (t : TableData) (c : TokenClasses) (book : Words) (spots : SpotList) (n : ℕ) (best : List (Option FailureCandidate)) (b : Option FailureCandidate) → AreBest t c book spots n best → IsBestBelow t c book spots n t.grammar.tokens b → AreBest t c book spots (n + 1) (best ++ b ∷ [])
all_step t c book spots n best b h k = record {
  len = (let l = length-append best (b ∷ []) in let m = h.len in omega arith);
  each = λ s o e. elim (get_cases best b s o e) [ inl was ↦ h.each s o was | inr is ↦ (let at : s ≡ n = is.0 ∙ h.len in rw (at, is.1) k) ];
}
