-- Lemmas on the sentence of a number of the book.
use Rattle.std.proofs.Common.{◌≡◌, ◌<◌, ◌∙◌, ℕ, List, ◌∷◌, length, ap, arith}
use Rattle.std.specs.Prelude.{slice_index_or}
use Rattle.mh_facts.specs.code.BestFirst.{Label}
use Rattle.mh_reach_words.specs.code.Words.{Words, letters_of}
use Rattle.mh_reach_words.specs.code.SentenceComparison.{numbers_of}
use Rattle.mh_reach_spots.specs.code.Spots.{IsWordAt}

module _ (book : Words) (n : ℕ) (letters : List ℕ) (spelled : letters ≡ letters_of book n) (l : Label) (h : IsWordAt book n (numbers_of l)) where
  pub letters_are : letters ≡ l.start ∷ l.word
  letters_are = spelled ∙ h.is

  pub some_letter : 0 < length letters
  some_letter = let e = ap (λ (w : List ℕ). length w) letters_are in omega (arith, e)

  pub first_is_start : (start : ℕ) → start ≡ slice_index_or letters 0 start → start ≡ l.start
  first_is_start start e = let at : start ≡ slice_index_or (l.start ∷ l.word) 0 start = rw letters_are at e in at
