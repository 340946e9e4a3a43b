-- Lemmas on the labels of spots (states with a next token) and of the arrivals that wait.
use Rattle.std.proofs.Common.{◌≡◌, ◌∙◌, ◌<◌, ◌≤◌, ◌+◌, ◌⊎◌, inl, inr, ℕ, List, [], ◌∷◌, ◌++◌, length, Option, Some, None, refl, sym, arith, length-append}
use Rattle.std.specs.Prelude.{min}
use Rattle.std.proofs.lemmas.Bool.{cases_lt}
use Rattle.mh_tables_core.specs.Table.{TableData}
use Rattle.mh_facts.specs.Costs.{cap}
use Rattle.mh_facts.specs.code.BestFirst.{Label}
use Rattle.mh_facts.specs.code.WordCosts.{cost_up_to_cap}
use Rattle.mh_facts.proofs.AssociationLists.{each_more, none_more, put_cases, put_here, put_other}
use Rattle.mh_facts.proofs.WordCosts.{no_lower, no_lower_back, option_unique}
use Rattle.mh_reach_words.specs.declared.word_parts.WordParts.{WordParts}
use Rattle.mh_reach_words.specs.code.Words.{Words, HasParts}
use Rattle.mh_reach_words.proofs.LongerBook.{letters_kept, made_below, spelled_kept}
use Rattle.mh_reach_words.specs.declared.arrivals.StateAndNext.{StateAndNext}
use Rattle.mh_reach_words.specs.code.Arrivals.{LabelNoLater, with_value_at}
use Rattle.mh_reach_words.specs.code.SentenceComparison.{numbers_of}
use Rattle.mh_reach_words.proofs.LabelOrder.{both_over, label_laws}
use Rattle.mh_reach_words.proofs.StateAndNextKeys.{spot_keys}
use Rattle.mh_reach_spots.specs.declared.spots.SpotArrival.{SpotArrival}
use Rattle.mh_reach_spots.specs.declared.waiting.WaitingSpot.{WaitingSpot}
use Rattle.mh_reach_spots.specs.code.SpotLevels.{IsLabelOf}
use Rattle.mh_reach_spots.specs.code.Spots.{IsArrivalOfLabel, IsWordAt, LabelAssignment, SpotList, arrival_at}

-- A label is determined by its numbers.
pub label_from_numbers : (k l : Label) → numbers_of k ≡ numbers_of l → k ≡ l
label_from_numbers k l e =
    let same : k.start ∷ k.word ≡ l.start ∷ l.word = e in
    let start : k.start ≡ l.start = cc in
    let word : k.word ≡ l.word = cc in
    let whole : record { start = k.start; word = k.word } ≡ record { start = l.start; word = l.word } = rw (start, word) refl in
    whole

-- Costs up to the highest.

pub cheap_front : (a b : ℕ) → a ≤ cap → min (a + b) cap < cap → a < cap
cheap_front a b le lt = let l = no_lower a b le in omega (arith, l, lt)

pub cheap_back : (a b : ℕ) → b ≤ cap → min (a + b) cap < cap → b < cap
cheap_back a b le lt = let l = no_lower_back a b le in omega (arith, l, lt)

-- Numbers and parts in a longer book.

known_more : (book added : Words) (n : ℕ) → n < length book → n < length (book ++ added)
known_more book added n lt = let l = length-append book added in omega (arith, l, lt)

pub word_more : (book added : Words) (n : ℕ) (w : List ℕ) → IsWordAt book n w → IsWordAt (book ++ added) n w
word_more book added n w h = record { known = known_more book added n h.known; is = letters_kept book added n h.known ∙ h.is }

pub parts_more : (book added : Words) (m : WordParts) → HasParts book m → HasParts (book ++ added) m
parts_more book added m h = made_below (length book) (length (book ++ added)) m (let l = length-append book added in omega (arith, l)) h

module _ (t : TableData) (book : Words) where
  -- Two labels of one arrival are equal, or both have the highest cost.

  pub one_label : (cost : ℕ) (o : WaitingSpot) (k l : Label) → cost < cap → IsLabelOf t book cost o k → IsLabelOf t book cost o l → k ≡ l
  one_label cost o k l lt a b = label_from_numbers k l (sym (a.is lt) ∙ b.is lt)

  pub labels_alike : (cost : ℕ) (o : WaitingSpot) (k l : Label) → IsLabelOf t book cost o k → IsLabelOf t book cost o l → LabelNoLater t k l
  labels_alike cost o k l a b = elim (cases_lt cost cap) [
    | inl lt ↦ rw (one_label cost o k l lt a b) ((label_laws t).reflexive l)
    | inr ge ↦ both_over t k l cost ge a.cost_is b.cost_is
  ]

  module _ (added : Words) (cost : ℕ) (o : WaitingSpot) (known : cost < cap → HasParts book o.made) (l : Label) where
    pub label_on : IsLabelOf t book cost o l → IsLabelOf t (book ++ added) cost o l
    label_on h = record { cost_is = h.cost_is; is = λ lt. spelled_kept book added o.made (known lt) ∙ h.is lt }

    pub label_back : IsLabelOf t (book ++ added) cost o l → IsLabelOf t book cost o l
    label_back h = record { cost_is = h.cost_is; is = λ lt. sym (spelled_kept book added o.made (known lt)) ∙ h.is lt }

  -- The labels of spots in a longer book.
  abbrev pub assignment_on : (added : Words) (spots : SpotList) → LabelAssignment t book spots → LabelAssignment t (book ++ added) spots
  assignment_on added spots h = record {
    labels = h.labels;
    none = h.none;
    some = λ k r e. (let g = h.some k r e in record { label = g.label; is = g.is; cost_is = g.cost_is; numbered = λ lt. word_more book added r.sentence (numbers_of g.label) (g.numbered lt) });
  }

  pub arrived_at : (spots : SpotList) (j : LabelAssignment t book spots) (k : StateAndNext) (l : Label) → j.labels k ≡ Some l → (r : SpotArrival) × (arrival_at spots k ≡ Some r)
  arrived_at spots j k l e = by (arrival_at spots k) refl
    where
      by : (o : Option SpotArrival) → arrival_at spots k ≡ o → (r : SpotArrival) × (arrival_at spots k ≡ Some r)
      by None s = absurd (let n : j.labels k ≡ None = j.none k s in let y : None ≡ Some l = sym n ∙ e in cc)
      by (Some r) s = (r, s)

  -- An arrival is added.
  module _ (spots : SpotList) (assignment : LabelAssignment t book spots) (k : StateAndNext) (r : SpotArrival) (l : Label) (fresh : arrival_at spots k ≡ None) (cost_is : r.cost ≡ cost_up_to_cap t l.word) (numbered : r.cost < cap → IsWordAt book r.sentence (numbers_of l)) where
    abbrev pub new_labels : StateAndNext → Option Label
    new_labels = with_value_at assignment.labels k (Some l)

    no_label : assignment.labels k ≡ None
    no_label = assignment.none k fresh

    other_than : (o : StateAndNext) (u : Label) → assignment.labels o ≡ Some u → o ≡ k → ⊥
    other_than o u e is = let n : assignment.labels o ≡ None = rw is no_label in let y : None ≡ Some u = sym n ∙ e in cc

    pub labels_kept : (o : StateAndNext) (u : Label) → assignment.labels o ≡ Some u → new_labels o ≡ Some u
    labels_kept o u e = put_other spot_keys assignment.labels k (Some l) o (other_than o u e) ∙ e

    pub labels_here : new_labels k ≡ Some l
    labels_here = put_here spot_keys assignment.labels k (Some l)

    pub labels_only : (o : StateAndNext) (u : Label) → new_labels o ≡ Some u → (assignment.labels o ≡ Some u) ⊎ ((o ≡ k) × (u ≡ l))
    labels_only o u e = elim (put_cases spot_keys assignment.labels k (Some l) o) [
      | inl here ↦ inr (here.0, option_unique (new_labels o) u l e here.1)
      | inr was ↦ inl (sym was ∙ e)
    ]

    pub reached_old : (o : StateAndNext) (g : SpotArrival) → IsArrivalOfLabel t book assignment.labels o g → IsArrivalOfLabel t book new_labels o g
    reached_old o g h = record { label = h.label; is = labels_kept o h.label h.is; cost_is = h.cost_is; numbered = h.numbered }

    pub reached_new : IsArrivalOfLabel t book new_labels k r
    reached_new = record { label = l; is = labels_here; cost_is = cost_is; numbered = numbered }

    abbrev pub assignment_more : LabelAssignment t book (spots ++ (k, r) ∷ [])
    assignment_more = record {
      labels = new_labels;
      none = none_more spot_keys assignment.labels spots k r (Some l) assignment.none;
      some = each_more spot_keys (IsArrivalOfLabel t book new_labels) spots k r fresh (λ o g was. reached_old o g (assignment.some o g was)) reached_new;
    }
