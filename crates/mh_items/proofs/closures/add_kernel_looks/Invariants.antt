use Rattle.std.proofs.Common.{take}
use Rattle.mh_grammar.specs.Plain.{plain_of}
use Rattle.mh_items.specs.code.PendingLooks.{AddsLooks}
use Rattle.mh_items.specs.code.ClosureLooks.{IsLookOfItems}
use Rattle.mh_items.proofs.closures.add_kernel_looks.Given as goal

abbrev pub invariant-loop-item : goal.invariant-loop-item
invariant-loop-item g l = AddsLooks (IsLookOfItems (plain_of l.grammar) (take l.item-index l.items)) l.initial.set l.set
