-- The definition of token classes. In each state the tokens fall into classes, each with a representative; all
-- reductions that lead to the state treat the tokens of one class alike.
use Rattle.std.specs.Prelude.{◌≡◌, ℕ, List, length, slice_get, Option, ◌<◌}
use Rattle.std.specs.Option.{option_map, unwrap_or}
use Rattle.std.specs.List.{Contains}
use Rattle.mh_tables_core.specs.Table.{TableData}
use Rattle.mh_facts.specs.code.BestFirst.{RepresentativesAgree}
use Rattle.mh_facts.specs.declared.classes.TokenClass.{TokenClass}
use Rattle.mh_facts.specs.declared.classes.TokenClasses.{TokenClasses}
use Rattle.mh_facts.specs.code.Queues.{row_of}

abbrev pub class_in : TokenClasses → ℕ → ℕ → Option TokenClass
class_in c s z = slice_get (row_of c.rows.items s) z

-- The representative of a token in a state.
unfoldable pub rep_of : TokenClasses → ℕ → ℕ → ℕ
rep_of c s z = unwrap_or (option_map (λ k. k.representative) (class_in c s z)) z

-- The number of a token's class in a state, among the classes of all states. It is the number of the row for rests of
-- paths that begin in the state with the token first, and for goto facts that lead to the state with the token next.
unfoldable pub place_of : TokenClasses → ℕ → ℕ → ℕ
place_of c s z = unwrap_or (option_map (λ k. k.place) (class_in c s z)) 0

-- The list of a state's representatives.
abbrev pub representatives_at : TokenClasses → ℕ → List ℕ
representatives_at c s = row_of c.lists.items s

pub record IsSized (t : TableData) (c : TokenClasses) : Type 0 where
  pub rows : length c.rows.items ≡ length t.states
  pub each_row : (s : ℕ) → s < length t.states → length (row_of c.rows.items s) ≡ t.grammar.tokens
  pub lists : length c.lists.items ≡ length t.states
  pub placed : (s z : ℕ) → s < length t.states → z < t.grammar.tokens → place_of c s z < c.places

pub record AreTokenClasses (t : TableData) (c : TokenClasses) : Type 0 where
  pub sized : IsSized t c
  pub in_range : (s z : ℕ) → z < t.grammar.tokens → rep_of c s z < t.grammar.tokens
  pub list_all : (s z : ℕ) → s < length t.states → z < t.grammar.tokens → Contains (representatives_at c s) (rep_of c s z)
  pub list_only : (s x : ℕ) → Contains (representatives_at c s) x → (x < t.grammar.tokens) × (rep_of c s x ≡ x)
  pub agree : RepresentativesAgree t (rep_of c)
