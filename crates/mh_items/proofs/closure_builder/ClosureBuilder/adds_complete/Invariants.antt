use Rattle.std.proofs.Common.{◌≡◌, ℕ, ◌<◌, false, Some, get_or}
use Rattle.std.specs.List.{slice_get}
use Rattle.mh_grammar.specs.declared.types.Symbol.TheVariants.{N}
use Rattle.mh_grammar.specs.Plain.{plain_of, rhs_of}
use Rattle.mh_items_kernels.specs.KernelTypes.{KernelItem}
use Rattle.mh_items.proofs.closure_builder.ClosureBuilder.adds_complete.Given as goal

abbrev pub invariant-loop-item : goal.invariant-loop-item
invariant-loop-item g l = (k n : ℕ) (item : KernelItem) → k < l.item-index → slice_get l.item-items k ≡ Some item → slice_get (rhs_of (plain_of l.grammar) item.production) item.dot ≡ Some (N n) → get_or l.self.empties.items n false ≡ false
