-- The comparisons of precedence levels by which conflicts are resolved (Menhir manual).
use Rattle.std.specs.Prelude.{◌≢◌, ◌<◌, ℕ, length}
use Rattle.mh_grammar.specs.declared.types.Grammar.{Grammar}
use Rattle.mh_grammar.specs.declared.types.Look.TheVariants.{Token}
use Rattle.mh_items_kernels.specs.KernelTypes.{Automaton}
use Rattle.mh_tables_core.specs.declared.parts.Action.TheVariants.{Shift, Reduce}
use Rattle.mh_resolve_cells.specs.declared.levels.Comparison.TheVariants.{Unknown}
use Rattle.mh_resolve_cells.specs.Precedence.{comparison_on}
use Rattle.mh_resolve_cells.specs.States.{Raw, state_of}

-- The resolution compares the level of production p with the level of token z: some state can shift the token and
-- reduce the production on it, and the levels are comparable.
pub record IsCompared (g : Grammar) (a : Automaton) (p z : ℕ) : Type 0 where
  pub state : ℕ
  pub target : ℕ
  pub is_state : state < length a.kernels
  pub shift : Raw (state_of g a state) (Token z) (Shift target)
  pub reduce : Raw (state_of g a state) (Token z) (Reduce p)
  pub comparable : comparison_on g (Token z) p ≢ Unknown

-- The level of the token is compared with that of some production.
abbrev pub IsTokenCompared : Grammar → Automaton → ℕ → Type 0
IsTokenCompared g a z = (p : ℕ) × IsCompared g a p z

-- The level of the production is compared with that of some token.
abbrev pub IsProductionCompared : Grammar → Automaton → ℕ → Type 0
IsProductionCompared g a p = (z : ℕ) × IsCompared g a p z
