-- Lemmas on stacks of parts: the words that they spell, their weights, and the replacement of a word by its parts.
use Rattle.std.proofs.Common.{◌≡◌, ◌∙◌, ℕ, zero, suc, ◌+◌, ◌*◌, ◌<◌, ◌≤◌, List, [], ◌∷◌, ◌++◌, length, Some, refl, ap, sym, arith, append_assoc}
use Rattle.std.specs.Prelude.{slice_get}
use Rattle.std.proofs.lemmas.List.{append-nil}
use Rattle.mh_reach_words.specs.declared.word_parts.LastPart.{LastPart}
use Rattle.mh_reach_words.specs.declared.word_parts.LastPart.TheVariants as lasts
use Rattle.mh_reach_words.specs.declared.word_parts.WordEntry.{WordEntry}
use Rattle.mh_reach_words.specs.code.Words.{Words, letters_of, word_of_last, IsLastBelow, words_of, AreSoundEntries}
use Rattle.mh_reach_words.specs.code.Comparison.{word_of_stack, AreBelow, weight_of, weight, ReplacesByParts}
use Rattle.mh_reach_words.proofs.LongerBook.{word_at, empty_letters, made_below}

pub rest_append : (words : Words) (xs ys : List LastPart) → word_of_stack words (xs ++ ys) ≡ word_of_stack words ys ++ word_of_stack words xs
rest_append words [] ys = sym (append-nil (word_of_stack words ys))
rest_append words (p ∷ xs) ys = ap (λ (w : List ℕ). w ++ word_of_last words p) (rest_append words xs ys) ∙ append_assoc (word_of_stack words ys) (word_of_stack words xs) (word_of_last words p)

-- The word of a stack begins with the word of its top part.
pub rest_top : (words : Words) (xs : List LastPart) (p : LastPart) → word_of_stack words (xs ++ p ∷ []) ≡ word_of_last words p ++ word_of_stack words xs
rest_top words xs p = rest_append words xs (p ∷ [])

pub weight_more : (p : LastPart) (xs : List LastPart) → weight (p ∷ xs) ≡ weight (p ∷ []) + weight xs
weight_more (lasts.Token x) xs = omega arith
weight_more (lasts.Word n) xs = omega arith

pub weight_append : (xs ys : List LastPart) → weight (xs ++ ys) ≡ weight xs + weight ys
weight_append [] ys = omega arith
weight_append (p ∷ xs) ys = let h = weight_append xs ys in let a = weight_more p (xs ++ ys) in let b = weight_more p xs in omega arith

pub weight_top : (xs : List LastPart) (p : LastPart) → weight (xs ++ p ∷ []) ≡ weight (p ∷ xs)
weight_top xs p = let h = weight_append xs (p ∷ []) in let a = weight_more p xs in omega arith

pub below_append : (n : ℕ) (xs ys : List LastPart) → AreBelow n xs → AreBelow n ys → AreBelow n (xs ++ ys)
below_append n [] ys h k = k
below_append n (p ∷ xs) ys h k = (h.0, below_append n xs ys h.1 k)

pub below_front : (n : ℕ) (xs ys : List LastPart) → AreBelow n (xs ++ ys) → AreBelow n xs
below_front n [] ys h = tt
below_front n (p ∷ xs) ys h = (h.0, below_front n xs ys h.1)

pub below_back : (n : ℕ) (xs ys : List LastPart) → AreBelow n (xs ++ ys) → AreBelow n ys
below_back n [] ys h = h
below_back n (p ∷ xs) ys h = below_back n xs ys h.1

some_weight : (n : ℕ) → 1 ≤ weight_of n
some_weight zero = omega arith
some_weight (suc n) = let h = some_weight n in omega arith

weight_rises : (n k : ℕ) → n ≤ k → weight_of n ≤ weight_of k
weight_rises zero k le = some_weight k
weight_rises (suc n) zero le = absurd (omega arith)
weight_rises (suc n) (suc k) le = let h = weight_rises n k (omega arith) in omega arith

pub some_part : (p : LastPart) → 1 ≤ weight (p ∷ [])
some_part (lasts.Token x) = omega arith
some_part (lasts.Word n) = let h = some_weight n in omega arith

last_weight : (n : ℕ) (p : LastPart) → IsLastBelow (suc n) p → weight (p ∷ []) ≤ weight_of n
last_weight n (lasts.Token x) h = let w = some_weight n in omega arith
last_weight n (lasts.Word m) h = let w = weight_rises m n (omega arith) in omega arith

module _ (entries : List WordEntry) (n : ℕ) (old new : List LastPart) where
  abbrev words : Words
  words = words_of entries

  -- The empty word is replaced by no parts.
  pub opens_empty : n ≡ 0 → new ≡ old → ReplacesByParts words n old new
  opens_empty none same =
      let nothing : letters_of words n ≡ [] = rw none (empty_letters entries) in
      record {
        spelled = rw (same, nothing) refl;
        below = λ h. rw same h;
        smaller = (let w = some_weight n in let l = ap (λ (ps : List LastPart). weight ps) same in omega arith);
      }

  pub opens_entry : (i : ℕ) (e : WordEntry) → AreSoundEntries entries → n < length words → n ≡ suc i → slice_get entries i ≡ Some e → new ≡ (old ++ e.made.last ∷ []) ++ lasts.Word e.made.front ∷ [] → ReplacesByParts words n old new
  opens_entry i e sound known is at grown =
      let word = word_at entries n i e sound is at in
      let below = made_below n (length words) e.made (omega arith) word.below in
      let front = letters_of words e.made.front in
      let last = word_of_last words e.made.last in
      let whole : word_of_stack words new ≡ front ++ (last ++ word_of_stack words old) =
      ap (λ (ps : List LastPart). word_of_stack words ps) grown ∙ rest_top words (old ++ e.made.last ∷ []) (lasts.Word e.made.front) ∙ ap (λ (w : List ℕ). front ++ w) (rest_top words old e.made.last) in
      let parts = rw is at word.below in
      let first = weight_rises e.made.front i (let lt = parts.0 in omega arith) in
      let second = last_weight i e.made.last parts.1 in
      let some = some_weight i in
      let power : weight_of n ≡ 3 * weight_of i = ap weight_of is in
      let a = ap (λ (ps : List LastPart). weight ps) grown ∙ weight_top (old ++ e.made.last ∷ []) (lasts.Word e.made.front) in
      let b = weight_top old e.made.last in
      let c = weight_more e.made.last old in
      record {
        spelled = whole ∙ sym (append_assoc front last (word_of_stack words old)) ∙ ap (λ (w : List ℕ). w ++ word_of_stack words old) (sym word.letters);
        below = λ h. rw grown (below_append (length words) (old ++ e.made.last ∷ []) (lasts.Word e.made.front ∷ []) (below_append (length words) old (e.made.last ∷ []) h (below.1, tt)) (below.0, tt));
        smaller = omega arith;
      }
