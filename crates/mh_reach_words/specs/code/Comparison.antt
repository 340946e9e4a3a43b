-- Definitions on the comparison of two words by their parts, without writing the words out.
use Rattle.std.specs.Prelude.{◌≡◌, ◌<◌, ◌+◌, ◌*◌, ◌⊎◌, ℕ, zero, suc, List, [], ◌∷◌, ◌++◌, length, slice_get, Option, Some, None}
use Rattle.std.specs.declared.cmp.Ordering.{Ordering}
use Rattle.std.specs.declared.cmp.Ordering.TheVariants.{Less, Equal, Greater}
use Rattle.mh_reach_words.specs.declared.word_parts.LastPart.{LastPart}
use Rattle.mh_reach_words.specs.declared.word_parts.LastPart.TheVariants as lasts
use Rattle.mh_reach_words.specs.declared.word_parts.WordEntry.{WordEntry}
use Rattle.mh_reach_words.specs.declared.comparing.Rests.{Rests}
use Rattle.mh_reach_words.specs.code.Words.{Words, LessAtDifference, IsProperPrefix, IsLastBelow, letters_of, word_of_last}

-- The result of the lexicographic comparison: at the first difference the lower token is less, and a proper prefix is
-- less.
abbrev pub IsComparison : List ℕ → List ℕ → Ordering → Type 0
IsComparison u v Less = LessAtDifference u v ⊎ IsProperPrefix u v
IsComparison u v Equal = u ≡ v
IsComparison u v Greater = LessAtDifference v u ⊎ IsProperPrefix v u

-- The word of a stack of parts, whose top is at the end of the list.
abbrev pub word_of_stack : Words → List LastPart → List ℕ
word_of_stack words [] = []
word_of_stack words (p ∷ ps) = word_of_stack words ps ++ word_of_last words p

abbrev pub AreBelow : ℕ → List LastPart → Type 0
AreBelow n [] = Unit {0}
AreBelow n (p ∷ ps) = IsLastBelow n p × AreBelow n ps

-- The weight of the word of number n, which is greater than the sum of the weights of its parts.
abbrev pub weight_of : ℕ → ℕ
weight_of zero = 1
weight_of (suc n) = 3 * weight_of n

abbrev pub weight : List LastPart → ℕ
weight [] = 0
weight (lasts.Token x ∷ ps) = 1 + weight ps
weight (lasts.Word n ∷ ps) = weight_of n + weight ps

-- The entry of a word, none for the empty word.
abbrev pub IsEntryOf : List WordEntry → ℕ → Option WordEntry → Type 0
IsEntryOf entries n None = n ≡ 0
IsEntryOf entries n (Some e) = (i : ℕ) × (n ≡ suc i) × (slice_get entries i ≡ Some e)

-- A word is replaced by its parts on a stack: the stack spells the same word, and its weight is lower.
pub record ReplacesByParts (words : Words) (n : ℕ) (old new : List LastPart) : Type 0 where
  pub spelled : word_of_stack words new ≡ letters_of words n ++ word_of_stack words old
  pub below : AreBelow (length words) old → AreBelow (length words) new
  pub smaller : weight new < weight (lasts.Word n ∷ old)

abbrev pub top_of : Option LastPart → List LastPart
top_of None = []
top_of (Some p) = p ∷ []

-- The top parts of two words, taken off their stacks. A word without a top part has ended.
pub record AreTops (words : Words) (rests : Rests) (left right : Option LastPart) : Type 0 where
  pub left_ends : left ≡ None → rests.left.items ≡ []
  pub right_ends : right ≡ None → rests.right.items ≡ []
  pub left_below : AreBelow (length words) (rests.left.items ++ top_of left)
  pub right_below : AreBelow (length words) (rests.right.items ++ top_of right)

-- The top parts do not decide the order: the two words are a common prefix followed by the words that remain on the
-- stacks.
pub record SharesPrefix (words : Words) (old new : Rests) (left right : Option LastPart) : Type 0 where
  pub prefix : List ℕ
  pub left_is : word_of_stack words (old.left.items ++ top_of left) ≡ prefix ++ word_of_stack words new.left.items
  pub right_is : word_of_stack words (old.right.items ++ top_of right) ≡ prefix ++ word_of_stack words new.right.items
  pub left_below : AreBelow (length words) new.left.items
  pub right_below : AreBelow (length words) new.right.items
  pub smaller : weight new.left.items + weight new.right.items < weight (old.left.items ++ top_of left) + weight (old.right.items ++ top_of right)

-- One step of a comparison: the order of the two words if the top parts decide it.
abbrev pub IsComparisonStep : Words → Rests → Rests → Option LastPart → Option LastPart → Option Ordering → Type 0
IsComparisonStep words old new left right None = SharesPrefix words old new left right
IsComparisonStep words old new left right (Some o) = IsComparison (word_of_stack words (old.left.items ++ top_of left)) (word_of_stack words (old.right.items ++ top_of right)) o

-- The order of two tokens, none if they are equal.
abbrev pub IsTokenComparison : ℕ → ℕ → Option Ordering → Type 0
IsTokenComparison x y None = x ≡ y
IsTokenComparison x y (Some Less) = x < y
IsTokenComparison x y (Some Equal) = ⊥
IsTokenComparison x y (Some Greater) = y < x

-- The top part is taken off the stack.
abbrev pub TakesTop : List LastPart → List LastPart → Option LastPart → Type 0
TakesTop old new None = (old ≡ []) × (new ≡ [])
TakesTop old new (Some p) = old ≡ new ++ p ∷ []

-- The words u and v are a common prefix followed by the words that remain on the two stacks.
pub record AreRemainders (words : Words) (rests : Rests) (u v : List ℕ) : Type 0 where
  pub prefix : List ℕ
  pub left_is : u ≡ prefix ++ word_of_stack words rests.left.items
  pub right_is : v ≡ prefix ++ word_of_stack words rests.right.items
  pub left_below : AreBelow (length words) rests.left.items
  pub right_below : AreBelow (length words) rests.right.items
