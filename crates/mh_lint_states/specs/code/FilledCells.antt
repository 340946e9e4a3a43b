-- Cells that reduce on errors, by the items of a list.
use Rattle.std.specs.Prelude.{◌≡◌, ◌<◌, ℕ, List, length}
use Rattle.std.specs.List.{Contains}
use Rattle.mh_grammar.specs.declared.types.Grammar.{Grammar}
use Rattle.mh_grammar.specs.Plain.{plain_of, rhs_of}
use Rattle.mh_grammar.specs.declared.types.Look.{Look}
use Rattle.mh_grammar.specs.declared.types.Look.TheVariants.{Token}
use Rattle.mh_items_kernels.specs.KernelTypes.{KernelItem}
use Rattle.mh_resolve_cells.specs.NoConflicts.{cell_at}
use Rattle.mh_tables_core.specs.Table.{TableData, state_at}
use Rattle.mh_tables_core.specs.declared.parts.Action.TheVariants.{Reduce}
use Rattle.mh_lint_states.specs.code.ClosedStates.{IsCompleteOn}

-- The item is the complete item of the production.
abbrev pub IsCompleteItem : Grammar → ℕ → KernelItem → Type 0
IsCompleteItem g p item = (item.production ≡ p) × (item.dot ≡ length (rhs_of (plain_of g) item.production))

-- Some item of the list is the complete item of the production and has this look.
pub record IsLookOf (g : Grammar) (items : List KernelItem) (p : ℕ) (look : Look) : Type 0 where
  pub item : KernelItem
  pub of_items : Contains items item
  pub production_is : item.production ≡ p
  pub complete : IsCompleteOn g item look

-- The cell of token z in state s reduces the production, and the token is none of the looks.
pub record IsFilledCell (t : TableData) (s : ℕ) (looks : List Look) (p z : ℕ) : Type 0 where
  pub reduces : cell_at (state_at t s) z ≡ Reduce p
  pub no_look : Contains looks (Token z) → ⊥

-- Some cell of state s does so.
abbrev pub HasFilledCell : TableData → ℕ → List Look → ℕ → Type 0
HasFilledCell t s looks p = (z : ℕ) × (z < t.grammar.tokens) × IsFilledCell t s looks p z
