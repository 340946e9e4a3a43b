-- Proves that a rising list stays rising when an item after all others is appended.
use Rattle.std.proofs.Common.{List, [], ◌∷◌, ◌++◌}
use Rattle.std.specs.List.{Contains}
use Rattle.mh_grammar.specs.Plain.{PlainGrammar}
use Rattle.mh_items_kernels.specs.KernelTypes.{Kernel, KernelItem}
use Rattle.mh_items_kernels.specs.Kernels.{IsItemList, IsKernelItem, IsItemBefore}
use Rattle.mh_grammar.proofs.Lists.{recursion-push, rising-push}

abbrev of_items : List KernelItem → Kernel
of_items items = record { items = items }

pub kernel_push : (g : PlainGrammar) (items : List KernelItem) (z : KernelItem) → IsItemList g (of_items items) → IsKernelItem g z → ((x : KernelItem) → Contains items x → IsItemBefore x z) → IsItemList g (of_items (items ++ z ∷ []))
kernel_push g items z k i b = record { items = recursion-push (IsKernelItem g) items z k.items i; rising = rising-push IsItemBefore items z k.rising b }
