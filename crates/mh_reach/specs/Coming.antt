-- Sentences whose run comes to a state with a given token next, and the first of them (this project's own).
use Rattle.std.specs.Prelude.{◌≡◌, ℕ, List, [], ◌∷◌, ◌++◌, ◌≤◌}
use Rattle.mh_tables_core.specs.Table.{TableData}
use Rattle.mh_tables_core.specs.Run.{initial, after, top_of}
use Rattle.mh_tables_core.specs.Failing.{IsInput, SentenceAtMost, cost_of_word, max_sentence_cost}

-- The run of the start on w, followed by the token z, has a configuration with the state s on top of its stack and
-- exactly z left.
pub record Comes (t : TableData) (start : ℕ) (w : List ℕ) (s z : ℕ) : Type 0 where
  pub sentence : IsInput t start (w ++ z ∷ [])
  pub steps : ℕ
  pub top : top_of (after t steps (initial start (w ++ z ∷ []))).stack ≡ s
  pub left : (after t steps (initial start (w ++ z ∷ []))).left ≡ z ∷ []

-- The sentence comes to the state with the token next, and is the first one that does.
pub record FirstComing (t : TableData) (start : ℕ) (w : List ℕ) (s z : ℕ) : Type 0 where
  pub comes : Comes t start w s z
  pub first : (start' : ℕ) (w' : List ℕ) → Comes t start' w' s z → SentenceAtMost t start w start' w'

-- Some sentence within the greatest cost of a catalogue comes to the state with the token next.
abbrev pub ComesWithinMaxCost : TableData → ℕ → ℕ → Type 0
ComesWithinMaxCost t s z = (start : ℕ) × (w : List ℕ) × Comes t start w s z × (cost_of_word t w ≤ max_sentence_cost)
