-- Sentences that are refused at their last token, the states in which they fail, and the catalogue of these states
-- (Pottier 2016). Costs of tokens in place of lengths are this project's own.
use Rattle.std.specs.Prelude.{◌≡◌, ℕ, List, [], ◌∷◌, length, ◌-◌, ◌+◌, ◌<◌, ◌≤◌, ◌⊎◌}
use Rattle.std.specs.List.{AllByRecursion, Contains}
use Rattle.mh_grammar.specs.Edges.{IsRising}
use Rattle.mh_grammar.specs.WordOrder.{LexLe}
use Rattle.mh_tables_core.specs.Table.{TableData, cost_of_token}
use Rattle.mh_tables_core.specs.Run.{VerdictOf, Rejected}

-- The start and the tokens are in the range of the table.
pub record IsInput (t : TableData) (start : ℕ) (w : List ℕ) : Type 0 where
  pub known : start < length t.grammar.starts
  pub tokens : AllByRecursion (λ z. z < t.grammar.tokens) w

-- The sentence fails in state s: its run is refused in s at its last token (Pottier 2016).
pub record Fails (t : TableData) (start : ℕ) (w : List ℕ) (s : ℕ) : Type 0 where
  pub sentence : IsInput t start w
  pub some_token : 0 < length w
  pub verdict : VerdictOf t start w (Rejected (length w - 1) s)

-- Some sentence fails in state s (Pottier 2016).
abbrev pub Failing : TableData → ℕ → Type 0
Failing t s = (start : ℕ) × (w : List ℕ) × Fails t start w s

-- The sum of the weights of the tokens of a word.
abbrev pub cost_by : (ℕ → ℕ) → List ℕ → ℕ
cost_by weigh [] = 0
cost_by weigh (z ∷ w) = weigh z + cost_by weigh w

-- The cost of a word: the sum of the costs of its tokens.
abbrev pub cost_of_word : TableData → List ℕ → ℕ
cost_of_word t w = cost_by (cost_of_token t) w

-- The total order of sentences: by cost, then by start, then by the lexicographic order of the tokens (this project's
-- own).
abbrev pub SentenceAtMost : TableData → ℕ → List ℕ → ℕ → List ℕ → Type 0
SentenceAtMost t start w start' w' = (cost_of_word t w < cost_of_word t w') ⊎ ((cost_of_word t w ≡ cost_of_word t w') × ((start < start') ⊎ ((start ≡ start') × LexLe w w')))

-- The sentence fails in state s, and is the least sentence that fails there (this project's own).
pub record FailsFirst (t : TableData) (start : ℕ) (w : List ℕ) (s : ℕ) : Type 0 where
  pub fails : Fails t start w s
  pub first : (start' : ℕ) (w' : List ℕ) → Fails t start' w' s → SentenceAtMost t start w start' w'

-- The greatest cost of a sentence in a catalogue (this project's own).
abbrev pub max_sentence_cost : ℕ
max_sentence_cost = 1000000

-- A row of a catalogue: a state, with a start and a sentence.
pub record CatalogueRow : Type 0 where
  pub state : ℕ
  pub start : ℕ
  pub sentence : List ℕ

-- The order of rows: by state.
abbrev pub IsRowBefore : CatalogueRow → CatalogueRow → Type 0
IsRowBefore a b = a.state < b.state

-- The catalogue: one row for each state in which a sentence fails, rising by state, each with the least sentence that
-- fails there (Pottier 2016; the order of sentences is this project's own).
pub record Catalogue (t : TableData) (rows : List CatalogueRow) : Type 0 where
  pub rising : IsRising IsRowBefore rows
  pub each : AllByRecursion (λ row. FailsFirst t row.start row.sentence row.state) rows
  pub complete : (s : ℕ) → Failing t s → (row : CatalogueRow) × Contains rows row × (row.state ≡ s)

-- Some sentence within the greatest cost fails in state s.
abbrev pub FailsWithinMaxCost : TableData → ℕ → Type 0
FailsWithinMaxCost t s = (start : ℕ) × (w : List ℕ) × Fails t start w s × (cost_of_word t w ≤ max_sentence_cost)

-- The lowest state in which some sentence fails, but none within the greatest cost.
pub record TooLongAt (t : TableData) (s : ℕ) : Type 0 where
  pub failing : Failing t s
  pub all_too_long : (start : ℕ) (w : List ℕ) → Fails t start w s → max_sentence_cost < cost_of_word t w
  pub lowest : (s' : ℕ) → s' < s → Failing t s' → FailsWithinMaxCost t s'
