-- Definitions on writing out a word from a stack of parts.
use Rattle.std.specs.Prelude.{◌≡◌, ◌<◌, ℕ, List, ◌∷◌, ◌++◌, length}
use Rattle.mh_reach_words.specs.declared.word_parts.LastPart.{LastPart}
use Rattle.mh_reach_words.specs.code.Words.{Words, letters_of, word_of_last}
use Rattle.mh_reach_words.specs.code.Comparison.{AreBelow, weight, word_of_stack}

-- The part is written, or replaced by its own parts on the stack: what is written and the stack spell the same word,
-- and the stack's weight is lower.
pub record WritesPart (words : Words) (part : LastPart) (old new : List LastPart) (written more : List ℕ) : Type 0 where
  pub letters : more ++ word_of_stack words new ≡ written ++ (word_of_last words part ++ word_of_stack words old)
  pub below : AreBelow (length words) old → AreBelow (length words) new
  pub smaller : weight new < weight (part ∷ old)

-- What is written, followed by the word of the stack, is the word of the number n.
pub record IsWritten (words : Words) (n : ℕ) (parts : List LastPart) (written : List ℕ) : Type 0 where
  pub letters : written ++ word_of_stack words parts ≡ letters_of words n
  pub below : AreBelow (length words) parts
