-- Definitions on the costs of words up to the highest cost, on the order of words by these costs, and on the token
-- before the dot of a key.
use Rattle.std.specs.Prelude.{ℕ, List, [], ◌∷◌, slice_get, Option, Some, None, ◌-◌, min, max}
use Rattle.mh_grammar.specs.declared.types.Symbol.{Symbol}
use Rattle.mh_grammar.specs.declared.types.Symbol.TheVariants.{T, N}
use Rattle.mh_grammar.specs.Plain.{rhs_of}
use Rattle.mh_tables_core.specs.Table.{TableData, cost_of_token}
use Rattle.mh_tables_core.specs.Failing.{cost_by}
use Rattle.mh_facts.specs.declared.store.FactKey.{FactKey}
use Rattle.mh_facts.specs.code.Orders.{CostLexLe}
use Rattle.mh_facts.specs.Costs.{cap}

-- The cost of a token; a number that is no token has cost 1.
abbrev pub weigh : TableData → ℕ → ℕ
weigh t x = max 1 (cost_of_token t x)

-- The order of words by cost, then lexicographically.
abbrev pub WordNoLater : TableData → List ℕ → List ℕ → Type 0
WordNoLater t u v = CostLexLe (weigh t) u v

-- The cost of a word, or the highest cost if the word costs more.
abbrev pub cost_up_to_cap : TableData → List ℕ → ℕ
cost_up_to_cap t w = min (cost_by (weigh t) w) cap

-- The word of a symbol: the token alone, or the empty word.
abbrev pub token_of : Option Symbol → List ℕ
token_of None = []
token_of (Some (T x)) = x ∷ []
token_of (Some (N n)) = []

abbrev pub listed : Option ℕ → List ℕ
listed None = []
listed (Some x) = x ∷ []

-- The token before the dot of a key.
abbrev pub before_dot : TableData → FactKey → List ℕ
before_dot t k = token_of (slice_get (rhs_of t.grammar k.production) (k.dot - 1))
