-- Proves for each pair of a state and a next token: the label is the first of the sentences that come to the state with
-- this token next, if some such sentence is within the greatest cost.
use Rattle.std.proofs.Common.{◌≡◌, ℕ, ◌<◌, ◌≤◌, inl, inr, List, Some, None, Option, refl, sym, ap, subst, arith, ◌∙◌}
use Rattle.std.specs.Prelude.{min}
use Rattle.std.specs.List.{AllByRecursion}
use Rattle.std.proofs.lemmas.Grind.{common_steps}
use Rattle.mh_tables_core.specs.Table.{TableData}
use Rattle.mh_tables_core.specs.Facts.{Facts}
use Rattle.mh_tables_core.specs.Failing.{cost_of_word, max_sentence_cost, SentenceAtMost}
use Rattle.mh_facts.specs.declared.classes.TokenClasses.{TokenClasses}
use Rattle.mh_reach.specs.Coming.{Comes, FirstComing, ComesWithinMaxCost}
use Rattle.mh_facts.specs.Costs.{cap}
use Rattle.mh_facts.specs.code.BestFirst.{Label, HasNoLaterLabel}
use Rattle.mh_facts.specs.code.Orders as orders
use Rattle.mh_facts.specs.code.TokenClasses.{rep_of}
use Rattle.mh_reach.proofs.Coming.{comes_if_reached, reaches_if_comes}
use Rattle.mh_facts.proofs.Sound.{reaches_known}
use Rattle.mh_facts.proofs.WordCosts.{option_unique, weigh_word}
use Rattle.mh_reach_words.specs.declared.arrivals.StateAndNext.{StateAndNext}
use Rattle.mh_reach_words.specs.code.Arrivals.{LabelNoLater, labels_at}
use Rattle.mh_reach_words.specs.code.SentenceComparison.{numbers_of}
use Rattle.mh_reach_words.specs.code.Words.{Words}
use Rattle.mh_reach_spots.specs.declared.spots.SpotArrival.{SpotArrival}
use Rattle.mh_reach_spots.specs.declared.spots.Spots.{Spots}
use Rattle.mh_reach_spots.specs.code.Spots.{AreLeastArrivals, IsWordAt, LabelAssignment, SpotList, arrival_at}
use Rattle.mh_reach.specs.Reaching.{LeastCostTo}
use Rattle.mh_reach.specs.code.Candidates.{InOrderOr, IsComingAt, IsComingLabel, spot_of}

-- Labels that are in order are in order as sentences of a catalogue, or both have the highest cost.
pub in_order : (t : TableData) (f : Facts t) (k l : Label) → AllByRecursion (λ z. z < t.grammar.tokens) k.word → AllByRecursion (λ z. z < t.grammar.tokens) l.word → LabelNoLater t k l → InOrderOr t k.start k.word l.start l.word
in_order t f k l a b (orders.SentenceLe.Cheaper lt) = let e = weigh_word t f k.word a in let g = weigh_word t f l.word b in inl (inl (omega (arith, e, g, lt)))
in_order t f k l a b (orders.SentenceLe.Over x y) = let e = weigh_word t f k.word a in let g = weigh_word t f l.word b in inr (omega (arith, e, x), omega (arith, g, y))
in_order t f k l a b (orders.SentenceLe.Sooner same lt) = inl (inr (sym (weigh_word t f k.word a) ∙ same ∙ weigh_word t f l.word b, inl lt))
in_order t f k l a b (orders.SentenceLe.Lower same start le) = inl (inr (sym (weigh_word t f k.word a) ∙ same ∙ weigh_word t f l.word b, inr (start, le)))

module _ (t : TableData) (f : Facts t) (c : TokenClasses) (spots : Spots) (h : AreLeastArrivals t c spots) where
  abbrev rep : ℕ → ℕ → ℕ
  rep = rep_of c

  abbrev labels : StateAndNext → Option Label
  labels = h.label_assignment.labels

  -- Some label comes no later than a sentence that comes to the state.
  no_later : (s z i : ℕ) (w : List ℕ) → Comes t i w s z → z < t.grammar.tokens → HasNoLaterLabel (LabelNoLater t) (labels_at labels) s (rep s z) (record { start = i; word = w })
  no_later s z i w comes known = h.complete i s z w comes.sentence.known known (reaches_if_comes t f i w s z comes)

  coming_label : (s z : ℕ) (l : Label) → z < t.grammar.tokens → labels (spot_of c s z) ≡ Some l → IsComingLabel t s z l
  coming_label s z l known e =
      let there = h.sound s (rep s z) l e z known refl in
      let tokens = (reaches_known t f l.start s z l.word there.0 there.1).tokens in
      record {
        comes = comes_if_reached t f l.start l.word s z there.0 known there.1;
        weighed = ap (λ (n : ℕ). min n cap) (weigh_word t f l.word tokens);
        first = λ i w other. (
            let k = no_later s z i w other known in
            let same : k.0 ≡ l = option_unique _ k.0 l k.1 e in
            let others = (reaches_known t f i s z w other.sentence.known (reaches_if_comes t f i w s z other)).tokens in
            in_order t f l (record { start = i; word = w }) tokens others (rw same at k.2));
      }

  coming_by : (s z : ℕ) (o : Option Label) → z < t.grammar.tokens → labels (spot_of c s z) ≡ o → IsComingAt t s z o
  coming_by s z None known e = λ i w comes. (let k = no_later s z i w comes known in let both : None ≡ Some k.0 = sym e ∙ k.1 in cc)
  coming_by s z (Some l) known e = coming_label s z l known e

  pub coming_at : (s z : ℕ) → z < t.grammar.tokens → IsComingAt t s z (labels (spot_of c s z))
  coming_at s z known = coming_by s z (labels (spot_of c s z)) known refl

-- If some sentence within the greatest cost comes to the state, the label is within the greatest cost.
pub coming_low : (t : TableData) (s z : ℕ) (l : Label) → IsComingLabel t s z l → ComesWithinMaxCost t s z → cost_of_word t l.word < cap
coming_low t s z l h cheap = below (h.first cheap.0 cheap.1 cheap.2)
  where
    low : cost_of_word t cheap.1 ≤ max_sentence_cost
    low = cheap.3

    below : InOrderOr t l.start l.word cheap.0 cheap.1 → cost_of_word t l.word < cap
    below (inl (inl lt)) = let m = low in omega (arith, m, lt)
    below (inl (inr (e, rest))) = let m = low in omega (arith, m, e)
    below (inr (a, b)) = let m = low in omega (arith, m, b)

-- If some sentence within the greatest cost comes to the state, the label comes before all other sentences.
first_to : (t : TableData) (s z : ℕ) (l : Label) → IsComingLabel t s z l → ComesWithinMaxCost t s z → (i : ℕ) (w : List ℕ) → Comes t i w s z → SentenceAtMost t l.start l.word i w
first_to t s z l h cheap i w comes = elim (h.first i w comes) [ inl order ↦ order | inr dear ↦ absurd (not_dear (h.first cheap.0 cheap.1 cheap.2) dear.0) ]
  where
    low : cost_of_word t cheap.1 ≤ max_sentence_cost
    low = cheap.3

    not_dear : InOrderOr t l.start l.word cheap.0 cheap.1 → cap ≤ cost_of_word t l.word → ⊥
    not_dear (inl (inl lt)) le = let l = low in omega (arith, l, lt, le)
    not_dear (inl (inr (e, rest))) le = let l = low in omega (arith, l, e, le)
    not_dear (inr (a, b)) le = let l = low in omega (arith, l, b)

pub coming_first : (t : TableData) (s z start : ℕ) (w : List ℕ) (l : Label) → IsComingLabel t s z l → ComesWithinMaxCost t s z → start ≡ l.start → w ≡ l.word → FirstComing t start w s z
coming_first t s z start w l h cheap from is = rw (from, is) (record { comes = h.comes; first = first_to t s z l h cheap })

pub no_dearer_to : (t : TableData) (i : ℕ) (u : List ℕ) (i' : ℕ) (v : List ℕ) → InOrderOr t i u i' v → min (cost_of_word t u) cap ≤ min (cost_of_word t v) cap
no_dearer_to t i u i' v (inl (inl lt)) = grind (arith, common_steps, lt)
no_dearer_to t i u i' v (inl (inr (e, rest))) = grind (arith, common_steps, e)
no_dearer_to t i u i' v (inr (a, b)) = grind (arith, common_steps, a, b)

pub least_cost_to : (t : TableData) (s z cost : ℕ) (l : Label) → IsComingLabel t s z l → cost ≡ min (cost_of_word t l.word) cap → LeastCostTo t s z (Some cost)
least_cost_to t s z cost l h e = (
  λ i w comes. (let le = no_dearer_to t l.start l.word i w (h.first i w comes) in omega (arith, le, e)),
  (l.start, l.word, h.comes, e),
)

-- The cost of the arrival at a spot is the least cost of a sentence that comes there. Without an arrival none comes.
module _ (t : TableData) (book : Words) (spots : SpotList) (j : LabelAssignment t book spots) (k : StateAndNext) (s z : ℕ) (h : IsComingAt t s z (j.labels k)) where
  pub none_comes : arrival_at spots k ≡ None → LeastCostTo t s z None
  none_comes e = subst (λ (o : Option Label). IsComingAt t s z o) (j.none k e) h

  pub arrival_cost : (r : SpotArrival) → arrival_at spots k ≡ Some r → LeastCostTo t s z (Some r.cost)
  arrival_cost r e =
      let labelled = j.some k r e in
      let comes : IsComingLabel t s z labelled.label = subst (λ (o : Option Label). IsComingAt t s z o) labelled.is h in
      least_cost_to t s z r.cost labelled.label comes (labelled.cost_is ∙ comes.weighed)

  -- If some sentence within the greatest cost comes there, there is an arrival, and its number is the first sentence.
  pub arrival_there : ComesWithinMaxCost t s z → (r : SpotArrival) × (arrival_at spots k ≡ Some r)
  arrival_there cheap = by (arrival_at spots k) refl
    where
      by : (o : Option SpotArrival) → arrival_at spots k ≡ o → (r : SpotArrival) × (arrival_at spots k ≡ Some r)
      by None e = absurd (none_comes e cheap.0 cheap.1 cheap.2)
      by (Some r) e = (r, e)

  pub arrival_sentence : ComesWithinMaxCost t s z → (r : SpotArrival) → arrival_at spots k ≡ Some r → (l : Label) × IsComingLabel t s z l × IsWordAt book r.sentence (numbers_of l)
  arrival_sentence cheap r e =
      let labelled = j.some k r e in
      let comes : IsComingLabel t s z labelled.label = subst (λ (o : Option Label). IsComingAt t s z o) labelled.is h in
      let cost_is : r.cost ≡ min (cost_of_word t labelled.label.word) cap = labelled.cost_is ∙ comes.weighed in
      let low = coming_low t s z labelled.label comes cheap in
      let cheaper : r.cost < cap = grind (arith, common_steps, cost_is, low) in
      (labelled.label, comes, labelled.numbered cheaper)
