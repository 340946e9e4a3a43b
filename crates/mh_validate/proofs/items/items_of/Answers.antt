use Rattle.std.proofs.Common.{rules, sym, ◌∙◌, subst, true≢false}
use Rattle.std.specs.List.{Contains}
use Rattle.mh_items_kernels.specs.KernelTypes.{KernelItem}
use Rattle.mh_items_kernels.specs.Kernels.{IsItemBefore}
use Rattle.mh_validate.proofs.ItemsRead.{items_none, items_more, items_never, items_all, item_unique}
use Rattle.mh_validate.proofs.items.items_of.Goals as goal

pub loop-raw-preserved : goal.loop-raw-preserved
loop-raw-preserved g c = rw c.in_ok-push.ensures.items (items_more c.args.grammar.now c.args.raws.now c.loop-raw.raw-index c.raw-item.result c.loop-raw.items.items c.in-Some.item c.loop-raw-test.true c.raw-item.is c.loop-raw.invariant c.in-Some.ensures
    (rw c.as_slice-in-loop-raw.ensures.value at (c.is_after_all.ensures.0 c.if-not-is_after_all.false)))

pub returns-in_default : goal.returns-in_default
returns-in_default g c items are = items_never c.args.grammar.now c.requires.distinct_names c.args.raws.now c.loop-raw.raw-index c.raw-item.result c.loop-raw.items.items items c.loop-raw-test.true c.raw-item.is c.loop-raw.invariant (λ item is _. c.in_default.ensures item is) are

pub returns-then-not-is_after_all : goal.returns-then-not-is_after_all
returns-then-not-is_after_all g c items are =
    let told = rw c.as_slice-in-loop-raw.ensures.value at c.is_after_all.ensures in
    items_never c.args.grammar.now c.requires.distinct_names c.args.raws.now c.loop-raw.raw-index c.raw-item.result c.loop-raw.items.items items c.loop-raw-test.true c.raw-item.is c.loop-raw.invariant
    (λ item is behind. true≢false (sym (told.1 (subst (λ (k : KernelItem). (z : KernelItem) → Contains c.loop-raw.items.items z → IsItemBefore z k) (item_unique c.args.grammar.now c.requires.distinct_names c.raw-item.result item c.in-Some.item is c.in-Some.ensures) behind)) ∙ c.if-not-is_after_all.true)) are

pub loop-raw-init : goal.loop-raw-init
loop-raw-init g c = rw c.in_ok-items.ensures.items (items_none c.args.grammar.now)

pub is_after_all-requires : goal.is_after_all-requires
is_after_all-requires g c = (search rules, (c.requires.fits.few, rw c.as_slice-in-loop-raw.ensures.value c.loop-raw.invariant.rising))

pub returns : goal.returns
returns g c = rw c.from_vec.ensures (items_all c.args.grammar.now c.args.raws.now c.loop-raw.raw-index c.loop-raw.items.items c.loop-raw-test.false c.loop-raw.invariant)
