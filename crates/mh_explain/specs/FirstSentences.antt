-- Defines the first sentence that comes to the state of a conflict (this project's own). The order of sentences is the
-- order by which the catalogue (`--list-errors`) has the first failing sentence of each state.
use Rattle.std.specs.Prelude.{◌≡◌, ◌<◌, ◌≤◌, ℕ, List, [], ◌∷◌}
use Rattle.mh_grammar.specs.declared.types.Look.{Look}
use Rattle.mh_grammar.specs.declared.types.Look.TheVariants.{Token, End}
use Rattle.mh_tables_core.specs.Table.{TableData}
use Rattle.mh_tables_core.specs.Run.{Refuses, run_move_of}
use Rattle.mh_tables_core.specs.Failing.{SentenceAtMost, cost_of_word, max_sentence_cost}
use Rattle.mh_reach.specs.Coming.{Comes}
use Rattle.mh_explain.specs.declared.first_sentence.FoundSentence.{FoundSentence}
use Rattle.mh_explain.specs.declared.first_sentence.FoundSentence.TheVariants.{NoSentence, TooLong, First}

-- A sentence that comes to the state s runs into a conflict of the state when the token z comes next. For a conflict on
-- a token, z is this token. For a conflict with the end of the stream, z is any token that the state does not refuse
-- (the end of the stream is no token, so no sentence has it next).
abbrev pub IsShownWith : TableData → ℕ → Look → ℕ → Type 0
IsShownWith t s (Token y) z = z ≡ y
IsShownWith t s End z = run_move_of t s (z ∷ []) ≡ Refuses → ⊥

-- The sentence comes to the state s with the next token z, and z is in the set `Shown` of tokens.
pub record ComesWith (t : TableData) (s : ℕ) (Shown : ℕ → Type 0) (start : ℕ) (w : List ℕ) (z : ℕ) : Type 0 where
  pub comes : Comes t start w s z
  pub shown : Shown z

-- The sentence is the first that comes to the state s with a next token in `Shown`, and z is the lowest such token.
pub record FirstWith (t : TableData) (s : ℕ) (Shown : ℕ → Type 0) (start : ℕ) (w : List ℕ) (z : ℕ) : Type 0 where
  pub comes : ComesWith t s Shown start w z
  pub first : (start' : ℕ) (w' : List ℕ) (z' : ℕ) → ComesWith t s Shown start' w' z' → SentenceAtMost t start w start' w'
  pub lowest : (z' : ℕ) → ComesWith t s Shown start w z' → z ≤ z'

-- Some sentence comes to the state with a next token in `Shown`, and each such sentence costs more than the greatest
-- cost.
pub record OnlyTooLong (t : TableData) (s : ℕ) (Shown : ℕ → Type 0) : Type 0 where
  pub some : (start : ℕ) × (w : List ℕ) × (z : ℕ) × ComesWith t s Shown start w z
  pub all_too_long : (start : ℕ) (w : List ℕ) (z : ℕ) → ComesWith t s Shown start w z → max_sentence_cost < cost_of_word t w

-- The result of the search for the first sentence that comes to the state with a next token in `Shown`.
abbrev pub IsFoundWith : TableData → ℕ → (ℕ → Type 0) → FoundSentence → Type 0
IsFoundWith t s Shown NoSentence = (start : ℕ) (w : List ℕ) (z : ℕ) → ComesWith t s Shown start w z → ⊥
IsFoundWith t s Shown TooLong = OnlyTooLong t s Shown
IsFoundWith t s Shown (First cost x z) = FirstWith t s Shown x.start x.tokens z × (cost ≡ cost_of_word t x.tokens) × (cost ≤ max_sentence_cost)

-- The result of the search for the first sentence that runs into the conflict of the state s on the look.
abbrev pub IsFoundOn : TableData → ℕ → Look → FoundSentence → Type 0
IsFoundOn t s look found = IsFoundWith t s (IsShownWith t s look) found
