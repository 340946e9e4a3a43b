-- Complete items of a list on a look.
use Rattle.std.specs.Prelude.{◌≡◌, ◌<◌, ℕ, List, Some, slice_get}
use Rattle.mh_grammar.specs.declared.types.Grammar.{Grammar}
use Rattle.mh_grammar.specs.declared.types.Look.{Look}
use Rattle.mh_items_kernels.specs.KernelTypes.{KernelItem}
use Rattle.mh_lint_states.specs.code.ClosedStates.{IsCompleteOn}

-- Item number i of the list is complete and has the look.
pub record IsOneOn (g : Grammar) (items : List KernelItem) (look : Look) (i : ℕ) : Type 0 where
  pub item : KernelItem
  pub at : slice_get items i ≡ Some item
  pub complete : IsCompleteOn g item look

-- Two items of the list are complete and have the look.
pub record HasTwoOn (g : Grammar) (items : List KernelItem) (look : Look) : Type 0 where
  pub one : ℕ
  pub other : ℕ
  pub is_one : IsOneOn g items look one
  pub is_other : IsOneOn g items look other
  pub below : one < other
