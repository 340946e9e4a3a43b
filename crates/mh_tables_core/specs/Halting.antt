-- The tables on which no run reduces forever. The test by relative runs of at most `max_reductions` reductions is this
-- project's own. A relative run makes reductions only, as long as they do not remove its lowest state.
use Rattle.std.specs.Prelude.{◌≡◌, ℕ, suc, List, [], ◌∷◌, length, Option, Some, None, ◌<◌, ◌≤◌}
use Rattle.mh_grammar.specs.declared.types.Symbol.{Symbol}
use Rattle.mh_tables_core.specs.Table.{TableData, edge_of}
use Rattle.mh_tables_core.specs.Facts.{Facts}
use Rattle.mh_tables_core.specs.Run.{reductions}
use Rattle.mh_tables_core.specs.Limits.{max_reductions}

-- A relative run begins with a start state alone, or with two states that are joined by an edge.
abbrev pub IsBeginning : TableData → Option ℕ → ℕ → Type 0
IsBeginning t None s = s < length t.grammar.starts
IsBeginning t (Some r) s = (x : Symbol) × (edge_of t r x ≡ Some s)

-- The stack at the beginning of a relative run.
abbrev pub beginning : Option ℕ → ℕ → List ℕ
beginning None s = s ∷ []
beginning (Some r) s = r ∷ s ∷ []

-- A relative run has a next token in the range of the table, or none.
abbrev pub IsLook : TableData → Option ℕ → Type 0
IsLook t None = Unit {0}
IsLook t (Some z) = z < t.grammar.tokens

-- An optional next token as a list of tokens.
abbrev pub look_list : Option ℕ → List ℕ
look_list None = []
look_list (Some z) = z ∷ []

-- The relative run makes at least n reductions.
abbrev pub MakesReductions : TableData → Option ℕ → ℕ → Option ℕ → ℕ → Type 0
MakesReductions t below s look n = (stack : List ℕ) × (reductions t (look_list look) n (beginning below s) ≡ Some stack)

-- No relative run makes more than `max_reductions` reductions.
abbrev pub AlwaysHalts : TableData → Type 0
AlwaysHalts t = (below : Option ℕ) (s : ℕ) (look : Option ℕ) (n : ℕ) → IsBeginning t below s → IsLook t look → MakesReductions t below s look n → n ≤ max_reductions

-- The invariant of tables that passed the halting test.
pub record HaltingFacts (t : TableData) : Type 0 where
  pub facts : Facts t
  pub halts : AlwaysHalts t

-- The relative run loops: it makes more than `max_reductions` reductions.
abbrev pub RunLoops : TableData → Option ℕ → ℕ → Option ℕ → Type 0
RunLoops t below s look = MakesReductions t below s look (suc max_reductions)

-- No relative run with this beginning loops, for any next token.
abbrev pub NeverLoops : TableData → Option ℕ → ℕ → Type 0
NeverLoops t below s = (look : Option ℕ) → IsLook t look → RunLoops t below s look → ⊥

-- The order of optional numbers: `None` is before each number.
abbrev pub IsOptionBefore : Option ℕ → Option ℕ → Type 0
IsOptionBefore None None = ⊥
IsOptionBefore None (Some b) = Unit {0}
IsOptionBefore (Some a) None = ⊥
IsOptionBefore (Some a) (Some b) = a < b

-- This relative run is the first that loops. Start states alone come first, and then edges by their source and their
-- target. From the same beginning, the run without a next token comes first, and then those with rising tokens.
pub record IsFirstLoop (t : TableData) (below : Option ℕ) (s : ℕ) (look : Option ℕ) : Type 0 where
  pub begins : IsBeginning t below s
  pub known : IsLook t look
  pub loops : RunLoops t below s look
  pub no_lower : (b : Option ℕ) (s' : ℕ) → IsOptionBefore b below → IsBeginning t b s' → NeverLoops t b s'
  pub no_earlier_state : (s' : ℕ) → s' < s → IsBeginning t below s' → NeverLoops t below s'
  pub no_earlier_look : (look' : Option ℕ) → IsOptionBefore look' look → IsLook t look' → RunLoops t below s look' → ⊥
