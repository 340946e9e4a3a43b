-- Lemmas on the numbering of words, one after another in lexicographic order.
use Rattle.std.proofs.Common.{◌≡◌, ◌∙◌, ℕ, zero, suc, ◌+◌, ◌<◌, ◌≤◌, ◌⊎◌, inl, inr, List, [], ◌∷◌, ◌++◌, length, None, Some, Bool, true, false, cond, refl, ap, sym, arith, Decides, rules}
use Rattle.std.specs.Prelude.{slice_get, if◌then◌else◌}
use Rattle.std.specs.List.{Contains, list_any}
use Rattle.std.proofs.lemmas.List.{length_push}
use Rattle.std.proofs.lemmas.Option.{slice_get_within}
use Rattle.std.proofs.lemmas.List.Elements.{Contains-append_left}
use Rattle.indexmap.specs.IndexSet.{insert_key}
use Rattle.indexmap.proofs.CallerLemmas.{Contains-list_any}
use Rattle.mh_grammar.proofs.Lists.{get_cases, get_left, get_last, get_unique, get_within, contains_at, at_contains, contains_last, contains_push, below_next}
use Rattle.mh_reach_words.specs.contracts.word_parts.WordPartsPartialEq.TheImpl.{ghosts}
use Rattle.mh_reach_words.specs.declared.word_parts.WordParts.{WordParts}
use Rattle.mh_reach_words.specs.declared.word_parts.WordEntry.{WordEntry}
use Rattle.mh_reach_words.specs.declared.numbering.PartialNumbering.{PartialNumbering}
use Rattle.mh_reach_words.specs.code.Words.{Words, LessAtDifference, spelled, words_of}
use Rattle.mh_reach_words.specs.code.Numbering.{ArePrefixFree, InsertsOnce, IsEqual, IsRepeated, AddsNew, HasEntryAt, IsNumberedUpTo, AreNumbers, number_in}
use Rattle.mh_reach_words.specs.code.Sorting.{LexNoLater, IsSorted, HaveSameElements}
use Rattle.mh_reach_words.proofs.ComparisonOrder.{before_trans, apart_before}

-- The test `ghosts.eq` decides the equality of the parts of words.

made_Decides : (a b : WordParts) → Decides (ghosts.eq a b) (a ≡ b)
made_Decides a b = search rules

pub equal_from_eq : (x y : WordParts) → ghosts.eq x y ≡ true → x ≡ y
equal_from_eq x y e = (made_Decides x y).0 e

pub eq_refl : (x : WordParts) → ghosts.eq x x ≡ true
eq_refl x = (made_Decides x x).1 refl

-- Inserting the parts of a word adds them to the set at most once.

pub puts_once : (old new : List WordParts) (m : WordParts) → new ≡ insert_key ghosts.eq old m → InsertsOnce old new m
puts_once old new m keys = by (list_any (ghosts.eq m) old) refl keys
  where
    by : (b : Bool) → list_any (ghosts.eq m) old ≡ b → new ≡ (if b then old else old ++ m ∷ []) → InsertsOnce old new m
    by true there same = record {
      has = rw same (Contains-list_any ghosts.eq equal_from_eq old m there);
      kept = λ o h. rw same h;
      only = λ o h. inl (rw same at h);
    }
    by false absent grown = record {
      has = rw grown (contains_last old m);
      kept = λ o h. rw grown (Contains-append_left old (m ∷ []) o h);
      only = λ o h. contains_push old m o (rw grown at h);
    }

-- The set `distinct` has the first n elements of `made`, and only elements of `made`.
pub record OnceSoFar (made : List WordParts) (n : ℕ) (distinct : List WordParts) : Type 0 where
  pub has : (i : ℕ) (m : WordParts) → i < n → slice_get made i ≡ Some m → Contains distinct m
  pub only : (m : WordParts) → Contains distinct m → Contains made m

pub once_next : (made : List WordParts) (n : ℕ) (m : WordParts) (old new : List WordParts) → slice_get made n ≡ Some m → OnceSoFar made n old → InsertsOnce old new m → OnceSoFar made (n + 1) new
once_next made n m old new at h p = record {
  has = λ i o lt there. by i o lt there (below_next i n lt);
  only = λ o there. elim (p.only o there) [ inl was ↦ h.only o was | inr is ↦ rw is (contains_at made n m at) ];
}
  where
    by : (i : ℕ) (o : WordParts) → i < n + 1 → slice_get made i ≡ Some o → (i < n) ⊎ (i ≡ n) → Contains new o
    by i o lt there (inl l) = p.kept o (h.has i o l there)
    by i o lt there (inr e) = let same : o ≡ m = get_unique made n o m (rw e at there) at in rw same p.has

pub once_ends : (made : List WordParts) (n : ℕ) (distinct : List WordParts) → length made ≤ n → OnceSoFar made n distinct → HaveSameElements made distinct
once_ends made n distinct le h = record { kept = λ m there. (let at = at_contains made m there in h.has at.0 m (let l = slice_get_within made at.0 m at.1 in omega arith) at.1); only = h.only }

-- Equal neighbours in the sorted list.

pub repeated_by : (words : Words) (made : List WordParts) (place p : ℕ) (m o : WordParts) (b : Bool) → place ≡ suc p → slice_get made p ≡ Some m → slice_get made place ≡ Some o → IsEqual words m o b → IsRepeated words made place b
repeated_by words made place p m o true e at there h = (p, m, o, e, at, there, h)
repeated_by words made place p m o false e at there h = λ q n r f at' there'. (
    let same : q ≡ p = omega arith in
    let a : m ≡ n = get_unique made p m n at (rw same at at') in
    let b : o ≡ r = get_unique made place o r there there' in
    rw (a, b) at h)

-- The loop that numbers the words in their order keeps its invariant.

rises_at : (R : WordParts → WordParts → Type 0) (made : List WordParts) (i j : ℕ) (m o : WordParts) → i < j → slice_get made i ≡ Some m → slice_get made j ≡ Some o → IsSorted R made → R m o
rises_at R [] i j m o lt at there h = absurd (let y : None ≡ Some m = at in cc)
rises_at R (x ∷ made) zero zero m o lt at there h = absurd (omega arith)
rises_at R (x ∷ made) zero (suc j) m o lt at there h = let same : x ≡ m = (let y : Some x ≡ Some m = at in cc) in rw same at (h.0 o (contains_at made j o there))
rises_at R (x ∷ made) (suc i) zero m o lt at there h = absurd (omega arith)
rises_at R (x ∷ made) (suc i) (suc j) m o lt at there h = rises_at R made i j m o (omega arith) at there h.1

module _ (entries : List WordEntry) (group : ℕ) (made : List WordParts) where
  abbrev words : Words
  words = words_of entries

  module _ (place : ℕ) (old new : PartialNumbering) (m : WordParts) (at : slice_get made place ≡ Some m) (even : ArePrefixFree words made) (rises : IsSorted (LexNoLater words) made) (gives : IsNumberedUpTo entries group made place old)
      (number : ℕ) (number_is : number ≡ length entries + length new.entries.items) (long : length words ≡ suc (length entries)) (put : (q : WordParts) → number_in new q ≡ cond (ghosts.eq m q) (Some number) (number_in old q)) where
    -- The word that was numbered last is less than the word at `place`, if the two are not equal.
    apart : (p : ℕ) (o : WordParts) → place ≡ suc p → slice_get made p ≡ Some o → IsRepeated words made place false → LessAtDifference (spelled words o) (spelled words m)
    apart p o e there fresh =
        let has : Contains made m = contains_at made place m at in
        let was : Contains made o = contains_at made p o there in
        apart_before (spelled words o) (spelled words m) (fresh p o m e there at) (rises_at (LexNoLater words) made p place o m (omega arith) there at rises) (even o m was has) (even m o has was)

    -- All new words are less than the word at `place`, if it does not repeat the one before it.
    all_before : (j : ℕ) (d : WordEntry) → slice_get old.entries.items j ≡ Some d → IsRepeated words made place false → LessAtDifference (spelled words d.made) (spelled words m)
    all_before j d there fresh = by place refl
      where
        by : (n : ℕ) → place ≡ n → LessAtDifference (spelled words d.made) (spelled words m)
        by zero e = absurd (let none = gives.begun e in let y : None ≡ Some d = rw none at there in cc)
        by (suc p) e =
            let has = get_within made p (let l = slice_get_within made place m at in omega arith) in
            let o = has.0 in
            let before = apart p o e has.1 fresh in
            let last = gives.last p o e has.1 in
            let same = last.2.same in
            elim (below_next j last.0 (let l = slice_get_within old.entries.items j d there in let k = last.1 in omega arith)) [
              | inl lt ↦ before_trans (spelled words d.made) (spelled words last.2.entry.made) (spelled words m) (gives.rising j last.0 d last.2.entry lt there last.2.at) (rw same before)
              | inr is ↦ (let one : d ≡ last.2.entry = get_unique old.entries.items last.0 d last.2.entry (rw is at there) last.2.at in rw (one, same) before)
            ]

    -- The word at `place` has the last entry: a new entry, or the entry of the equal word before it.
    given_new : (o : WordParts) (j : ℕ) → HasEntryAt words old.entries.items o j → (e : WordEntry) → new.entries.items ≡ old.entries.items ++ e ∷ [] → HasEntryAt words new.entries.items o j
    given_new o j h e grown = record { entry = h.entry; at = rw grown (get_left old.entries.items (e ∷ []) j h.entry h.at); same = h.same }

    given_same : (o : WordParts) (j : ℕ) → HasEntryAt words old.entries.items o j → new.entries.items ≡ old.entries.items → HasEntryAt words new.entries.items o j
    given_same o j h same = record { entry = h.entry; at = rw same h.at; same = h.same }

    -- The words up to `place` have their numbers.
    numbers_next : (j : ℕ) → length new.entries.items ≡ suc j → HasEntryAt words new.entries.items m j → ((o : WordParts) (i : ℕ) → HasEntryAt words old.entries.items o i → HasEntryAt words new.entries.items o i) → (i : ℕ) (o : WordParts) → i < place + 1 → slice_get made i ≡ Some o →
        (j : ℕ) × (number_in new o ≡ Some (length words + j)) × HasEntryAt words new.entries.items o j
    numbers_next j count given kept i o lt there = by (ghosts.eq m o) refl (below_next i place lt)
      where
        is : number ≡ length words + j
        is = omega arith

        by : (b : Bool) → ghosts.eq m o ≡ b → (i < place) ⊎ (i ≡ place) → (j : ℕ) × (number_in new o ≡ Some (length words + j)) × HasEntryAt words new.entries.items o j
        by true e where' = let same : m ≡ o = equal_from_eq m o e in (j, put o ∙ ap (λ (b : Bool). cond b (Some number) (number_in old o)) e ∙ ap Some is, rw same at given)
        by false e (inl l) = let was = gives.numbers i o l there in (was.0, put o ∙ ap (λ (b : Bool). cond b (Some number) (number_in old o)) e ∙ was.1, kept o was.0 was.2)
        by false e (inr f) = let same : o ≡ m = get_unique made place o m (rw f at there) at in absurd (let y : false ≡ true = sym e ∙ rw same (eq_refl m) in cc)

    pub numbered_next : AddsNew words group made place old.entries.items new.entries.items → IsNumberedUpTo entries group made (place + 1) new
    numbered_next (inl (again, same)) =
        let last = gives.last again.0 again.1 again.3 again.4 in
        let here : again.2 ≡ m = get_unique made place again.2 m again.5 at in
        let given : HasEntryAt words new.entries.items m last.0 = record { entry = last.2.entry; at = rw same last.2.at; same = last.2.same ∙ again.6 ∙ ap (λ (o : WordParts). spelled words o) here } in
        let count : length new.entries.items ≡ suc last.0 = rw same last.1 in
        record {
          begun = λ e. absurd (omega arith);
          made = λ j e there. gives.made j e (rw same at there);
          rising = λ j k d e lt a b. gives.rising j k d e lt (rw same at a) (rw same at b);
          last = λ p o e there. (last.0, count, (let one : place ≡ p = omega arith in let two : o ≡ m = get_unique made place o m (rw one there) at in rw two given));
          numbers = numbers_next last.0 count given (λ o i h. given_same o i h same);
        }
    numbered_next (inr (o, there, fresh, grown)) =
        let here : o ≡ m = get_unique made place o m there at in
        let e : WordEntry = record { made = o; group = group } in
        let j = length old.entries.items in
        let count : length new.entries.items ≡ suc j = (let l = ap (λ (es : List WordEntry). length es) grown in let k = length_push old.entries.items e in omega arith) in
        let given : HasEntryAt words new.entries.items m j = record { entry = e; at = rw grown (get_last old.entries.items e j refl); same = ap (λ (o : WordParts). spelled words o) here } in
        record {
          begun = λ e. absurd (omega arith);
          made = λ i d h. elim (get_cases old.entries.items e i d (rw grown at h)) [
            | inl was ↦ gives.made i d was
            | inr last ↦ rw last.1 (contains_at made place o there, refl)
          ];
          rising = λ i k c d lt a b. elim (get_cases old.entries.items e k d (rw grown at b)) [
            | inl was ↦ (elim (get_cases old.entries.items e i c (rw grown at a)) [ inl was' ↦ gives.rising i k c d lt was' was | inr last ↦ absurd (let l = slice_get_within old.entries.items k d was in let f = last.0 in omega arith) ])
            | inr last ↦ (elim (get_cases old.entries.items e i c (rw grown at a)) [
              | inl was' ↦ rw (last.1, here) (all_before i c was' fresh)
              | inr first ↦ absurd (let f = first.0 in let g = last.0 in omega arith)
            ])
          ];
          last = λ p q f there'. (j, count, (let one : place ≡ p = omega arith in let two : q ≡ m = get_unique made place q m (rw one there') at in rw two given));
          numbers = numbers_next j count given (λ q i h. given_new q i h e grown);
        }

-- The list of the numbers, in the order of the words.

pub record NumberedSoFar (given : PartialNumbering) (made : List WordParts) (n : ℕ) (numbers : List ℕ) : Type 0 where
  pub len : length numbers ≡ n
  pub each : (i : ℕ) (m : WordParts) (k : ℕ) → slice_get made i ≡ Some m → slice_get numbers i ≡ Some k → number_in given m ≡ Some k

pub numbers_begin : (given : PartialNumbering) (made : List WordParts) (numbers : List ℕ) → numbers ≡ [] → NumberedSoFar given made 0 numbers
numbers_begin given made numbers none = record { len = ap (λ (l : List ℕ). length l) none; each = λ i m k at there. absurd (let y : None ≡ Some k = rw none at there in cc) }

pub number_next : (given : PartialNumbering) (made : List WordParts) (n : ℕ) (m : WordParts) (k : ℕ) (old new : List ℕ) → slice_get made n ≡ Some m → number_in given m ≡ Some k → new ≡ old ++ k ∷ [] → NumberedSoFar given made n old → NumberedSoFar given made (n + 1) new
number_next given made n m k old new at is grown h = record {
  len = ap (λ (l : List ℕ). length l) grown ∙ length_push old k ∙ (let l = h.len in omega arith);
  each = λ i o q there got. elim (get_cases old k i q (rw grown at got)) [
    | inl was ↦ h.each i o q there was
    | inr last ↦ (let here : i ≡ n = last.0 ∙ h.len in let same : o ≡ m = get_unique made n o m (rw here at there) at in rw (same, last.1) is)
  ];
}

pub numbers_end : (given : PartialNumbering) (made : List WordParts) (n : ℕ) (numbers : List ℕ) → n ≡ length made → NumberedSoFar given made n numbers → AreNumbers given made numbers
numbers_end given made n numbers e h = record { len = h.len ∙ e; each = h.each }
