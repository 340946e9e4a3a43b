-- Proves that the items that the code reads from an automaton are kernel items of the grammar.
use Rattle.std.proofs.Common.{◌≡◌, ◌<◌, ℕ, List, length, get_or, sym, subst}
use Rattle.std.specs.List.{All}
use Rattle.std.proofs.lemmas.List.Elements.{All-from_recursion}
use Rattle.mh_grammar.specs.declared.types.Grammar.{Grammar}
use Rattle.mh_grammar.specs.Plain.{plain_of}
use Rattle.mh_items_kernels.specs.KernelTypes.{Automaton, Kernel, KernelItem}
use Rattle.mh_items_kernels.specs.Kernels.{IsKernelItem}
use Rattle.mh_items_kernels.specs.Automaton.{IsAutomaton}
use Rattle.mh_resolve_cells.proofs.AreResolved.{kernel_is_item_list}

pub kernel_items : (g : Grammar) (a : Automaton) → IsAutomaton (plain_of g) a → (n : ℕ) (kernel : Kernel) (items : List KernelItem) → n < length a.kernels → kernel ≡ get_or a.kernels n kernel → items ≡ kernel.items → All (IsKernelItem (plain_of g)) items
kernel_items g a h n kernel items lt e f =
    subst (All (IsKernelItem (plain_of g))) (sym f) (All-from_recursion (IsKernelItem (plain_of g)) kernel.items (kernel_is_item_list g a h n kernel lt e).items)
