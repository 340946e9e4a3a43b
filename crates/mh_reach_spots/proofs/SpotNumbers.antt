-- Lemmas on the numbers of the sentences of one cost.
use Rattle.std.proofs.Common.{◌≡◌, ◌∙◌, ◌<◌, ◌≤◌, ◌+◌, inl, inr, ℕ, zero, suc, List, [], ◌∷◌, ◌++◌, length, Some, None, refl, sym, ap, arith}
use Rattle.std.specs.Prelude.{min, slice_get}
use Rattle.std.specs.List.{Contains}
use Rattle.std.specs.List.Sorted.{IsNonDecreasingBy, IsPermutation}
use Rattle.std.proofs.lemmas.Bool.{cases_lt}
use Rattle.std.proofs.lemmas.Grind.{common_steps}
use Rattle.std.proofs.lemmas.List.{append-nil, length_push}
use Rattle.std.proofs.lemmas.List.Sorted.{Contains-permutation, IsPermutation-sym}
use Rattle.std.proofs.lemmas.Option.{slice_get_within}
use Rattle.mh_grammar.proofs.Lists.{at_contains, contains_at, contains_map, get_cases, get_unique, get_within, map_contains}
use Rattle.mh_tables_core.specs.Table.{TableData}
use Rattle.mh_tables_core.specs.Failing.{cost_by}
use Rattle.mh_facts.specs.Costs.{cap}
use Rattle.mh_facts.specs.code.BestFirst.{Label}
use Rattle.mh_facts.specs.code.WordCosts.{cost_up_to_cap, weigh}
use Rattle.mh_facts.proofs.OrderLaws.{cost_append}
use Rattle.mh_facts.proofs.WordCosts.{weigh_positive}
use Rattle.mh_reach_words.specs.declared.word_parts.WordParts.{WordParts}
use Rattle.mh_reach_words.specs.code.Words.{Words, HasParts, IsBook, IsProperPrefix, group_of, spelled}
use Rattle.mh_reach_words.specs.code.Numbering.{AreBelowGroup, ArePrefixFree, IsNumberingOf}
use Rattle.mh_reach_words.proofs.LongerBook.{group_kept}
use Rattle.mh_reach_words.specs.code.SentenceComparison.{numbers_of}
use Rattle.mh_reach_spots.specs.declared.waiting.RankedSpot.{RankedSpot}
use Rattle.mh_reach_spots.specs.declared.waiting.WaitingSpot.{WaitingSpot}
use Rattle.mh_reach_spots.specs.code.SpotLevels.{IsLabelOf}
use Rattle.mh_reach_spots.specs.code.SpotNumbers.{ArePaired, AreSentences, IsRanked, SentencesAreNumbered, mades, sentence_group}

-- Items paired with their numbers.

pub none_paired : (all : List WaitingSpot) (numbers : List ℕ) → ArePaired all numbers 0 []
none_paired all numbers = record { len = refl; each = λ n r there. absurd (let y : None ≡ Some r = there in cc) }

pub paired_more : (all : List WaitingSpot) (numbers : List ℕ) (count : ℕ) (pairs : List RankedSpot) (o : WaitingSpot) (sentence : ℕ) → ArePaired all numbers count pairs → slice_get all count ≡ Some o → slice_get numbers count ≡ Some sentence → ArePaired all numbers (count + 1) (pairs ++ record { coming = o; sentence = sentence } ∷ [])
paired_more all numbers count pairs o sentence h at num = record {
  len = (let a = h.len in let b = length_push pairs (record { coming = o; sentence = sentence }) in omega arith);
  each = λ n r there. elim (get_cases pairs (record { coming = o; sentence = sentence }) n r there) [
    | inl was ↦ h.each n r was
    | inr new ↦ (let place : n ≡ count = new.0 ∙ h.len in rw (new.1, place) (record { coming = at; sentence = num }))
  ];
}

pub pairs_ranked : (all : List WaitingSpot) (numbers : List ℕ) (pairs rs : List RankedSpot) → ArePaired all numbers (length all) pairs → IsPermutation pairs rs → IsNonDecreasingBy (λ r. r.sentence) rs → IsRanked all numbers rs
pairs_ranked all numbers pairs rs h same rises = record {
  kept = λ o there. (
      let at = at_contains all o there in
      let within = slice_get_within all at.0 o at.1 in
      let long = h.len in
      let r = get_within pairs at.0 (omega arith) in
      let pair = h.each at.0 r.0 r.1 in
      let is : r.0.coming ≡ o = get_unique all at.0 r.0.coming o pair.coming at.1 in
      rw (← is) (contains_map (λ (r : RankedSpot). r.coming) rs r.0 (Contains-permutation pairs rs r.0 same (contains_at pairs at.0 r.0 r.1))));
  only = λ r there. (
      let was = Contains-permutation rs pairs r (IsPermutation-sym pairs rs same) there in
      let at = at_contains pairs r was in
      (at.0, h.each at.0 r at.1));
  is_sorted = rises;
}

-- The numbering.

made_of : (all : List WaitingSpot) (m : WordParts) → Contains (mades all) m → (o : WaitingSpot) × Contains all o × (o.made ≡ m)
made_of all m there = map_contains (λ (o : WaitingSpot). o.made) all m there

map_at : (all : List WaitingSpot) (i : ℕ) (o : WaitingSpot) → slice_get all i ≡ Some o → slice_get (mades all) i ≡ Some o.made
map_at [] i o e = absurd (let y : None ≡ Some o = e in cc)
map_at (x ∷ all) zero o e = let y : Some x ≡ Some o = e in let is : x ≡ o = cc in ap (λ (p : WaitingSpot). Some p.made) is
map_at (x ∷ all) (suc i) o e = map_at all i o e

pub map_long : (all : List WaitingSpot) → length (mades all) ≡ length all
map_long [] = refl
map_long (x ∷ all) = ap suc (map_long all)

module _ (old new : Words) (cost : ℕ) (all : List WaitingSpot) (numbers : List ℕ) where
  -- Sentences of the highest cost get no numbers.
  pub not_numbered : cap ≤ cost → length numbers ≡ length all → new ≡ old → SentencesAreNumbered old new cost all numbers
  not_numbered ge len same = record {
    len = len;
    added = [];
    grown = same ∙ sym (append-nil old);
    below = λ h n lt. (let b : group_of old n < cap + 1 + cost = h n (rw same at lt) in rw same (omega (arith, b)));
    each = λ lt i n o at num. absurd (omega (arith, ge, lt));
    rising = λ lt m n a b d. absurd (omega (arith, ge, lt));
  }

  pub are_numbered : (made : List WordParts) → made ≡ mades all → IsNumberingOf old new (sentence_group cost) made numbers → IsBook new → SentencesAreNumbered old new cost all numbers
  are_numbered made is h book = record {
    len = h.len ∙ ap length is ∙ map_long all;
    added = h.added;
    grown = h.grown;
    below = λ low n lt. elim (cases_lt n (length old)) [
      | inl was ↦ (
          let b : group_of old n < cap + 1 + cost = low n was in
          let kept : group_of new n ≡ group_of old n = rw h.grown (group_kept old h.added n was) in
          omega (arith, b, kept))
      | inr ge ↦ (let g : group_of new n ≡ cap + 1 + cost = h.groups n ge lt in omega (arith, g))
    ];
    each = λ lt i n o at num. h.each i o.made n (rw is (map_at all i o at)) num;
    rising = λ lt m n ge less within. (
        let a = h.groups m ge (omega (arith, less, within)) in
        let b = h.groups n (omega (arith, ge, less)) within in
        (book.groups m n less within).1 (a ∙ sym b));
  }

-- Sentences of one cost, below the highest.

longer_costs : (a b s n : ℕ) → n < cap → n ≡ min a cap → n ≡ min s cap → s ≡ a + b → 0 < b → ⊥
longer_costs a b s n lt e g sum some = grind (arith, common_steps, lt, e, g, sum, some)

-- No sentence is a proper prefix of another one of the same cost.
no_prefix : (t : TableData) (cost : ℕ) (k l : Label) → cost < cap → cost ≡ cost_up_to_cap t k.word → cost ≡ cost_up_to_cap t l.word → IsProperPrefix (numbers_of k) (numbers_of l) → ⊥
no_prefix t cost k l lt e g (x, r, is) =
    let word : l.word ≡ k.word ++ x ∷ r = (let y : l.start ∷ l.word ≡ k.start ∷ (k.word ++ x ∷ r) = is in cc) in
    let sum : cost_by (weigh t) l.word ≡ cost_by (weigh t) k.word + cost_by (weigh t) (x ∷ r) = ap (λ (w : List ℕ). cost_by (weigh t) w) word ∙ cost_append (weigh t) k.word (x ∷ r) in
    let some : 0 < cost_by (weigh t) (x ∷ r) = (let p = weigh_positive t x in omega (arith, p)) in
    longer_costs (cost_by (weigh t) k.word) (cost_by (weigh t) (x ∷ r)) (cost_by (weigh t) l.word) cost lt e g sum some

module _ (t : TableData) (book : Words) (cost : ℕ) (lt : cost < cap) (all : List WaitingSpot) (label_for : (o : WaitingSpot) → Contains all o → (l : Label) × IsLabelOf t book cost o l) where
  prefix_free : ArePrefixFree book (mades all)
  prefix_free m o in_m in_o prefix =
      let x = made_of all m in_m in
      let y = made_of all o in_o in
      let k = label_for x.0 x.1 in
      let l = label_for y.0 y.1 in
      let a : spelled book m ≡ numbers_of k.0 = rw x.2 at (k.1.is lt) in
      let b : spelled book o ≡ numbers_of l.0 = rw y.2 at (l.1.is lt) in
      no_prefix t cost k.0 l.0 lt k.1.cost_is l.1.cost_is (rw (a, b) at prefix)

  pub are_sentences : AreBelowGroup book (sentence_group cost) → ((o : WaitingSpot) → Contains all o → HasParts book o.made) → AreSentences book cost all
  are_sentences fresh known = record {
    known = λ m there. (let x = made_of all m there in rw x.2 at (known x.0 x.1));
    fresh = fresh;
    prefix_free = prefix_free;
  }
