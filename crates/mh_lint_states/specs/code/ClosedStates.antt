-- States with the items of their closures.
use Rattle.std.specs.Prelude.{◌≡◌, ◌<◌, ℕ, length}
use Rattle.std.specs.List.{Contains}
use Rattle.mh_grammar.specs.declared.types.Grammar.{Grammar}
use Rattle.mh_grammar.specs.declared.types.Look.{Look}
use Rattle.mh_grammar.specs.ItemSets.{AreSameItems}
use Rattle.mh_grammar.specs.Plain.{plain_of, rhs_of}
use Rattle.mh_items_kernels.specs.Automaton.{closure_of}
use Rattle.mh_items_kernels.specs.KernelTypes.{Automaton, Kernel, KernelItem}
use Rattle.mh_items_kernels.specs.Kernels.{Holds, IsItemList}

-- The list has the items of the closure of state s.
pub record IsClosedState (g : Grammar) (a : Automaton) (s : ℕ) (closed : Kernel) : Type 0 where
  pub is_state : s < length a.kernels
  pub is_list : IsItemList (plain_of g) closed
  pub items : AreSameItems (Holds closed) (closure_of (plain_of g) a s)

-- The item is complete and has this look.
pub record IsCompleteOn (g : Grammar) (item : KernelItem) (look : Look) : Type 0 where
  pub complete : item.dot ≡ length (rhs_of (plain_of g) item.production)
  pub has_look : Contains item.looks look
