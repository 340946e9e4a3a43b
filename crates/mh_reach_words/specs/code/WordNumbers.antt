-- The numbers of words.
use Rattle.std.specs.Prelude.{◌≡◌, ◌<◌, ℕ, List, length}
use Rattle.mh_reach_words.specs.code.Words.{Words, letters_of, group_of}

-- The number is that of the word w in the book, in the group of the cost.
pub record IsNumberOfWord (book : Words) (number cost : ℕ) (w : List ℕ) : Type 0 where
  pub known : number < length book
  pub group : group_of book number ≡ cost
  pub letters : letters_of book number ≡ w
