-- The orders of words and of sentences.
use Rattle.std.specs.Prelude.{◌≡◌, ℕ, List, ◌<◌, ◌≤◌, ◌⊎◌}
use Rattle.mh_grammar.specs.WordOrder.{LexLe}
use Rattle.mh_tables_core.specs.Failing.{cost_by}
use Rattle.mh_facts.specs.Costs.{cap}
use Rattle.mh_facts.specs.code.BestFirst.{Label}

-- The word u costs no more than v, or both reach the highest cost.
abbrev pub CostLe : (ℕ → ℕ) → List ℕ → List ℕ → Type 0
CostLe weigh u v = (cost_by weigh u ≤ cost_by weigh v) ⊎ ((cap ≤ cost_by weigh u) × (cap ≤ cost_by weigh v))

-- The order of words by cost, then lexicographically. Words that reach the highest cost are not distinguished.
pub data CostLexLe (weigh : ℕ → ℕ) (u v : List ℕ) : Type 0 where
  Cheaper : cost_by weigh u < cost_by weigh v → CostLexLe weigh u v
  Over : cap ≤ cost_by weigh u → cap ≤ cost_by weigh v → CostLexLe weigh u v
  Lower : cost_by weigh u ≡ cost_by weigh v → LexLe u v → CostLexLe weigh u v

-- The order of sentences (a label is a start and a word) by cost, then by start, then lexicographically. Sentences that
-- reach the highest cost are not distinguished.
pub data SentenceLe (weigh : ℕ → ℕ) (k l : Label) : Type 0 where
  Cheaper : cost_by weigh k.word < cost_by weigh l.word → SentenceLe weigh k l
  Over : cap ≤ cost_by weigh k.word → cap ≤ cost_by weigh l.word → SentenceLe weigh k l
  Sooner : cost_by weigh k.word ≡ cost_by weigh l.word → k.start < l.start → SentenceLe weigh k l
  Lower : cost_by weigh k.word ≡ cost_by weigh l.word → k.start ≡ l.start → LexLe k.word l.word → SentenceLe weigh k l
