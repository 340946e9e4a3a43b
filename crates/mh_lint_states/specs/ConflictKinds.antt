-- The kinds of conflicts, by all actions that the state has on the look, as Menhir reports them.
use Rattle.std.specs.Prelude.{◌<◌, ℕ, codes}
use Rattle.mh_grammar.specs.declared.types.Grammar.{Grammar}
use Rattle.mh_grammar.specs.declared.types.Look.{Look}
use Rattle.mh_grammar.specs.Text.{Text}
use Rattle.mh_items_kernels.specs.KernelTypes.{Automaton}
use Rattle.mh_tables_core.specs.declared.parts.Action.TheVariants.{Shift, Reduce}
use Rattle.mh_resolve_cells.specs.States.{Raw, state_of}

-- The state can shift the look.
abbrev pub CanShift : Grammar → Automaton → ℕ → Look → Type 0
CanShift g a s look = (target : ℕ) × Raw (state_of g a s) look (Shift target)

-- The state can reduce two productions on the look.
pub record CanReduceTwo (g : Grammar) (a : Automaton) (s : ℕ) (look : Look) : Type 0 where
  pub one : ℕ
  pub other : ℕ
  pub reduce_one : Raw (state_of g a s) look (Reduce one)
  pub reduce_other : Raw (state_of g a s) look (Reduce other)
  pub below : one < other

-- The words for the conflict of a state on a look.
pub data IsKindText (g : Grammar) (a : Automaton) (s : ℕ) (look : Look) : Text → Type 0 where
  shift_reduce : CanShift g a s look → (CanReduceTwo g a s look → ⊥) → IsKindText g a s look (codes "shift/reduce")
  shift_reduce_reduce : CanShift g a s look → CanReduceTwo g a s look → IsKindText g a s look (codes "shift/reduce/reduce")
  reduce_reduce : (CanShift g a s look → ⊥) → IsKindText g a s look (codes "reduce/reduce")
