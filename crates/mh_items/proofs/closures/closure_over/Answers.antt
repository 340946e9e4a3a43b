use Rattle.std.proofs.Common.{◌≡◌, length, vec_len, ◌∙◌, arith, rules}
use Rattle.std.proofs.lemmas.List.Elements.{All-from_recursion}
use Rattle.std.proofs.lemmas.Result.{IfOk-weaker}
use Rattle.mh_grammar.specs.Plain.{plain_of}
use Rattle.mh_items_kernels.specs.Kernels.{IsKernelItem}
use Rattle.mh_items.specs.code.PendingLooks.{AddsLooks, AreQueued, AreAllWaiting}
use Rattle.mh_items.specs.code.ClosureLooks.{IsLookOfItems, AreClosureLooks}
use Rattle.mh_items.proofs.IsKernelLook.{are_kernel_looks, all_waiting}
use Rattle.mh_items.proofs.AreAddedItems.{closure_of_union}
use Rattle.mh_items.proofs.AreClosureLooks.{same_closure_looks}
use Rattle.mh_items.proofs.closures.closure_over.Goals as goal

pub add_kernel_looks-requires : goal.add_kernel_looks-requires
add_kernel_looks-requires _ c =
    let items = c.args.kernel.now.items in
    let each = All-from_recursion (IsKernelItem (plain_of c.args.grammar.now)) items c.requires.kernel.items in
    (search rules, (search rules, (search rules, (c.requires.fits, (c.requires.firsts.sets, (rw c.as_slice.ensures each, (c.requires.nothing.table, c.requires.nothing.size)))))))

pub spread-requires : goal.spread-requires
spread-requires _ c =
    let g = plain_of c.args.grammar.now in
    let h : AddsLooks (IsLookOfItems g c.args.kernel.now.items) c.args.asked.now c.add_kernel_looks.new.set = rw c.as_slice.ensures at c.in_ok-add_kernel_looks.ensures in
    let queued : AreQueued 0 c.add_kernel_looks.new.set = h.queued 0 (omega arith) (λ n w. absurd (c.requires.nothing.none_waits n w)) in
    let awake : AreAllWaiting c.add_kernel_looks.new.set = all_waiting g (IsLookOfItems g c.args.kernel.now.items) c.args.asked.now c.add_kernel_looks.new.set c.requires.nothing.empty h in
    (search rules, (search rules, (c.requires.fits.few, (c.requires.firsts, (h.table, (h.size ∙ c.requires.nothing.size, (queued, awake)))))))

pub sort_visited-requires : goal.sort_visited-requires
sort_visited-requires _ c = (search rules, (c.in_ok-spread.ensures.table, c.in_ok-spread.ensures.none_waits))

pub added_items-requires : goal.added_items-requires
added_items-requires _ c =
    let g = plain_of c.args.grammar.now in
    let kernel = c.args.kernel.now in
    let h : AddsLooks (IsLookOfItems g kernel.items) c.args.asked.now c.add_kernel_looks.new.set = rw c.as_slice.ensures at c.in_ok-add_kernel_looks.ensures in
    let size = c.in_ok-spread.ensures.size ∙ h.size ∙ c.requires.nothing.size in
    let w : AreClosureLooks g kernel c.spread.new.set = c.in_ok-spread.ensures.wanted kernel (are_kernel_looks g kernel c.args.asked.now c.add_kernel_looks.new.set c.requires.nothing.empty h) in
    let same = c.sort_visited.ensures.looks in
    (search rules, (search rules, (search rules, (c.requires.fits, (c.requires.firsts, (c.sort_visited.ensures.table, (rw same size, (kernel, c.requires.kernel, same_closure_looks g kernel c.spread.new.set c.sort_visited.new.self same w))))))))

pub forget-requires : goal.forget-requires
forget-requires _ c = (search rules, (c.requires.fits.few, (c.sort_visited.ensures.table, λ n w. c.in_ok-spread.ensures.none_waits n (rw c.sort_visited.ensures.waiting at w))))

pub merged-requires : goal.merged-requires
merged-requires _ c = (search rules, (c.requires.fits, (rw c.as_slice-2.ensures c.requires.kernel, rw c.as_slice-3.ensures.value c.in_ok-added.ensures.kernel)))

pub returns-clause-kernel : goal.returns-clause-kernel
returns-clause-kernel _ c = IfOk-weaker c.merged.result _ _ (λ closed u. u.kernel) c.merged.ensures

pub returns-clause-exact : goal.returns-clause-exact
returns-clause-exact _ c =
    let g = plain_of c.args.grammar.now in
    let kernel = c.args.kernel.now in
    let h : AddsLooks (IsLookOfItems g kernel.items) c.args.asked.now c.add_kernel_looks.new.set = rw c.as_slice.ensures at c.in_ok-add_kernel_looks.ensures in
    let w : AreClosureLooks g kernel c.spread.new.set = c.in_ok-spread.ensures.wanted kernel (are_kernel_looks g kernel c.args.asked.now c.add_kernel_looks.new.set c.requires.nothing.empty h) in
    let merged = rw (c.as_slice-2.ensures, c.as_slice-3.ensures.value) at c.merged.ensures in
    let sorted = same_closure_looks g kernel c.spread.new.set c.sort_visited.new.self c.sort_visited.ensures.looks w in
    IfOk-weaker c.merged.result _ _ (λ closed u. closure_of_union g kernel c.sort_visited.new.self sorted c.in_ok-added.added.items closed.items c.in_ok-added.ensures.exact u) merged

pub returns-clause-nothing : goal.returns-clause-nothing
returns-clause-nothing _ c =
    let g = plain_of c.args.grammar.now in
    let h : AddsLooks (IsLookOfItems g c.args.kernel.now.items) c.args.asked.now c.add_kernel_looks.new.set = rw c.as_slice.ensures at c.in_ok-add_kernel_looks.ensures in
    let size : vec_len c.spread.new.set.looks ≡ length c.args.grammar.now.nonterminals = c.in_ok-spread.ensures.size ∙ h.size ∙ c.requires.nothing.size in
    let nothing = rw (c.sort_visited.ensures.looks, size) at c.forget.ensures in
    IfOk-weaker c.merged.result _ _ (λ closed u. nothing) c.merged.ensures
