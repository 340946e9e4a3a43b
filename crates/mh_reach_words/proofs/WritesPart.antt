-- Lemmas on writing out a word from a stack of parts.
use Rattle.std.proofs.Common.{◌≡◌, ◌∙◌, ℕ, ◌<◌, List, [], ◌∷◌, ◌++◌, length, refl, ap, sym, arith, append_assoc}
use Rattle.std.proofs.lemmas.List.{append-nil}
use Rattle.mh_reach_words.specs.declared.word_parts.LastPart.{LastPart}
use Rattle.mh_reach_words.specs.declared.word_parts.LastPart.TheVariants as lasts
use Rattle.mh_reach_words.specs.code.Words.{Words, IsLastBelow, letters_of}
use Rattle.mh_reach_words.specs.code.Comparison.{AreBelow, ReplacesByParts, weight, word_of_stack}
use Rattle.mh_reach_words.specs.code.Writing.{IsWritten, WritesPart}
use Rattle.mh_reach_words.proofs.PartStacks.{below_back, below_front, rest_top, weight_top}

module _ (words : Words) where
  pub writes_token : (x : ℕ) (parts : List LastPart) (written more : List ℕ) → more ≡ written ++ x ∷ [] → WritesPart words (lasts.Token x) parts parts written more
  writes_token x parts written more is = record {
    letters = rw is (append_assoc written (x ∷ []) (word_of_stack words parts));
    below = λ h. h;
    smaller = omega arith;
  }

  pub writes_word : (n : ℕ) (old new : List LastPart) (written : List ℕ) → ReplacesByParts words n old new → WritesPart words (lasts.Word n) old new written written
  writes_word n old new written h = record {
    letters = ap (λ (w : List ℕ). written ++ w) h.spelled;
    below = h.below;
    smaller = h.smaller;
  }

  module _ (n : ℕ) where
    pub written_begins : (parts : List LastPart) (written : List ℕ) → n < length words → parts ≡ lasts.Word n ∷ [] → written ≡ [] → IsWritten words n parts written
    written_begins parts written known is none = rw (is, none) (record { letters = refl; below = (known, tt) })

    pub written_ends : (parts : List LastPart) (written : List ℕ) → parts ≡ [] → IsWritten words n parts written → written ≡ letters_of words n
    written_ends parts written is h =
        let all : written ++ word_of_stack words [] ≡ letters_of words n = rw is at h.letters in
        sym (append-nil written) ∙ all

    module _ (parts rest : List LastPart) (p : LastPart) (written : List ℕ) (is : parts ≡ rest ++ p ∷ []) (h : IsWritten words n parts written) where
      pub top_below : IsLastBelow (length words) p
      top_below = let b : AreBelow (length words) (rest ++ p ∷ []) = rw is at h.below in (below_back (length words) rest (p ∷ []) b).0

      pub written_more : (new : List LastPart) (more : List ℕ) → WritesPart words p rest new written more → IsWritten words n new more
      written_more new more w =
          let b : AreBelow (length words) (rest ++ p ∷ []) = rw is at h.below in
          let all : written ++ word_of_stack words (rest ++ p ∷ []) ≡ letters_of words n = rw is at h.letters in
          record {
            letters = w.letters ∙ ap (λ (u : List ℕ). written ++ u) (sym (rest_top words rest p)) ∙ all;
            below = w.below (below_front (length words) rest (p ∷ []) b);
          }

      pub less_left : (new : List LastPart) (more : List ℕ) → WritesPart words p rest new written more → weight new < weight parts
      less_left new more w = let l = w.smaller in let a = weight_top rest p in let e : weight parts ≡ weight (rest ++ p ∷ []) = ap weight is in omega (arith, l, a, e)
