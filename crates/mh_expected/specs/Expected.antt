-- The definition of expected tokens: the tokens that a run would shift next (Menhir manual on `acceptable`; the lists
-- are this project's own).
use Rattle.std.specs.Prelude.{◌≡◌, ◌↔◌, ◌<◌, ℕ, List, [], ◌∷◌, ◌++◌}
use Rattle.std.specs.List.{Contains}
use Rattle.mh_grammar.specs.Edges.{IsRising}
use Rattle.mh_tables_core.specs.Table.{TableData}
use Rattle.mh_tables_core.specs.Run.{initial, after, VerdictOf, Overshot}

-- A token z is expected after some tokens if the run of the start on these tokens and then z shifts all of them: after
-- some steps no token is left. A run that accepts before z, or refuses z, leaves z.
pub record IsExpected (t : TableData) (start : ℕ) (tokens : List ℕ) (z : ℕ) : Type 0 where
  pub known : z < t.grammar.tokens
  pub steps : ℕ
  pub shifted : (after t steps (initial start (tokens ++ z ∷ []))).left ≡ []

-- The list contains exactly the tokens that are expected after some tokens, in rising order.
pub record ExpectedTokens (t : TableData) (start : ℕ) (tokens list : List ℕ) : Type 0 where
  pub rising : IsRising (λ y z. y < z) list
  pub exact : (z : ℕ) → Contains list z ↔ IsExpected t start tokens z

-- The run of the start on the tokens overshoots in some state, so it asks for one more token.
abbrev pub Overshoots : TableData → ℕ → List ℕ → Type 0
Overshoots t start tokens = (s : ℕ) × VerdictOf t start tokens (Overshot s)
