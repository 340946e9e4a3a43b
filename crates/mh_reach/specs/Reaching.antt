-- The least cost of a sentence that fails in a state (Pottier 2016), and of a sentence that comes to a state with a
-- token next; costs are this project's own.
use Rattle.std.specs.Prelude.{◌≡◌, ℕ, List, Option, Some, None, ◌≤◌, min}
use Rattle.mh_tables_core.specs.Table.{TableData}
use Rattle.mh_tables_core.specs.Failing.{Fails, Failing, cost_of_word}
use Rattle.mh_reach.specs.Coming.{Comes}
use Rattle.mh_facts.specs.Costs.{cap}

-- None if no sentence fails in the state; else the least cost of a sentence that does, up to the highest cost.
abbrev pub LeastCost : TableData → ℕ → Option ℕ → Type 0
LeastCost t s None = Failing t s → ⊥
LeastCost t s (Some c) = ((start : ℕ) (w : List ℕ) → Fails t start w s → c ≤ min (cost_of_word t w) cap) × ((start : ℕ) × (w : List ℕ) × Fails t start w s × (c ≡ min (cost_of_word t w) cap))

-- None if no sentence comes to the state with the token next; else the least cost of a sentence that does, up to the
-- highest cost.
abbrev pub LeastCostTo : TableData → ℕ → ℕ → Option ℕ → Type 0
LeastCostTo t s z None = (start : ℕ) (w : List ℕ) → Comes t start w s z → ⊥
LeastCostTo t s z (Some c) = ((start : ℕ) (w : List ℕ) → Comes t start w s z → c ≤ min (cost_of_word t w) cap) × ((start : ℕ) × (w : List ℕ) × Comes t start w s z × (c ≡ min (cost_of_word t w) cap))
