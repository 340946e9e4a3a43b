-- The productions that a table reduces, and its reductions on errors (Menhir's warnings on both).
use Rattle.std.specs.Prelude.{◌≡◌, ◌<◌, ℕ, length, None, Some}
use Rattle.mh_grammar.specs.declared.types.Grammar.{Grammar}
use Rattle.mh_grammar.specs.Plain.{plain_of, lhs_of}
use Rattle.mh_grammar.specs.declared.types.Look.TheVariants.{Token}
use Rattle.mh_items_kernels.specs.KernelTypes.{Automaton}
use Rattle.mh_tables_core.specs.Table.{TableData, state_at}
use Rattle.mh_tables_core.specs.declared.parts.Action.{Action}
use Rattle.mh_tables_core.specs.declared.parts.Action.TheVariants.{Reduce}
use Rattle.mh_tables_core.specs.declared.parts.Fallback.TheVariants as fallbacks
use Rattle.mh_resolve_cells.specs.NoConflicts.{cell_at}
use Rattle.mh_resolve_cells.specs.States.{Raw, state_of, IsErrorReduction}

-- State s of the table reduces production p, in some cell or as its default.
pub data Reduces (t : TableData) (s p : ℕ) : Type 0 where
  in_cell : (z : ℕ) → cell_at (state_at t s) z ≡ Reduce p → Reduces t s p
  by_default : (state_at t s).fallback ≡ Some (fallbacks.Reduce p) → Reduces t s p

-- Some state reduces the production.
abbrev pub IsReduced : TableData → ℕ → Type 0
IsReduced t p = (s : ℕ) × (s < length t.states) × Reduces t s p

-- State s has a cell that reduces a production of nonterminal n because of an `%on_error_reduce` declaration alone: the
-- state has no action of its own on the token.
pub record ReducesOnErrors (g : Grammar) (a : Automaton) (t : TableData) (s n : ℕ) : Type 0 where
  pub production : ℕ
  pub token : ℕ
  pub without_default : (state_at t s).fallback ≡ None
  pub candidate : IsErrorReduction (state_of g a s) production
  pub left : lhs_of (plain_of g) production ≡ n
  pub filled : cell_at (state_at t s) token ≡ Reduce production
  pub no_own : (b : Action) → Raw (state_of g a s) (Token token) b → ⊥

-- Some state reduces a production of nonterminal n on errors.
abbrev pub IsReducedOnErrors : Grammar → Automaton → TableData → ℕ → Type 0
IsReducedOnErrors g a t n = (s : ℕ) × (s < length t.states) × ReducesOnErrors g a t s n
