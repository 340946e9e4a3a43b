use Rattle.std.proofs.Common.{List, take, sym, subst, ◌∙◌, rules}
use Rattle.mh_grammar.specs.Plain.{plain_of}
use Rattle.mh_items_kernels.specs.KernelTypes.{KernelItem}
use Rattle.mh_items_kernels.specs.Kernels.{IsKernelItem}
use Rattle.mh_items.specs.code.PendingLooks.{AddsLooks}
use Rattle.mh_items.specs.code.ClosureLooks.{IsLookOfItems}
use Rattle.mh_grammar.proofs.Lists.{take_step, all_at}
use Rattle.mh_items.proofs.AddsLooks.{AddsLooks-none}
use Rattle.mh_items.proofs.IsKernelLook.{no_kernel_looks, kernel_looks_step}
use Rattle.mh_items.proofs.closures.add_kernel_looks.Goals as goal

pub loop-item-init : goal.loop-item-init
loop-item-init _ c = AddsLooks-none _ _ c.requires.table (no_kernel_looks (plain_of c.args.grammar.now))

pub add_item-requires : goal.add_item-requires
add_item-requires _ c =
    let item = all_at (IsKernelItem (plain_of c.args.grammar.now)) c.args.items.now c.loop-item.item-index c.item-item.result c.requires.items c.loop-item-test.true c.item-item.is in
    let table = c.loop-item.invariant.table in
    let size = c.loop-item.invariant.size ∙ c.requires.size in
    search rules

pub loop-item-preserved : goal.loop-item-preserved
loop-item-preserved _ c =
    let items = c.args.items.now in
    let i = c.loop-item.item-index in
    let at = take_step items i c.item-item.result c.loop-item-test.true c.item-item.is in
    let P : List KernelItem → Type 0 = λ xs. AddsLooks (IsLookOfItems (plain_of c.args.grammar.now) xs) c.args.set.now c.add_item.new.set in
    subst P (sym at) (kernel_looks_step (plain_of c.args.grammar.now) (take i items) c.item-item.result _ _ _ c.loop-item.invariant c.in_ok-add_item.ensures)
