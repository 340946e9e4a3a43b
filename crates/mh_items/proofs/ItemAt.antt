-- Lemmas on the item at the current index of a loop over a kernel.
use Rattle.std.proofs.Common.{◌≡◌, ℕ, ◌<◌, List, Some, length, get_or, refl}
use Rattle.std.specs.List.{slice_get, AllByRecursion}
use Rattle.std.proofs.lemmas.Option.{slice_get_read}
use Rattle.mh_grammar.specs.Plain.{PlainGrammar}
use Rattle.mh_grammar.proofs.Lists.{recursion_at}
use Rattle.mh_items_kernels.specs.KernelTypes.{KernelItem}
use Rattle.mh_items_kernels.specs.Kernels.{IsKernelItem}

module _ (seen items : List KernelItem) (same : seen ≡ items) (i : ℕ) (y : KernelItem) (short : i < length seen) (is : y ≡ get_or seen i y) where
  pub item_at : slice_get items i ≡ Some y
  item_at = slice_get_read items (length items) i y refl (rw same at short) (rw same at is)

  pub item_is : (g : PlainGrammar) → AllByRecursion (IsKernelItem g) items → IsKernelItem g y
  item_is g each = recursion_at (IsKernelItem g) items each i y item_at
