use Rattle.mh_inline_unfold.proofs.Occurrences.{no_occurrence_in_empty_alternatives}
use Rattle.mh_inline_unfold.proofs.AddsToList.{AddsToList-none, each_listed}
use Rattle.mh_inline_unfold.proofs.inlined.list_alternatives.Goals as goal

pub loop-production-init : goal.loop-production-init
loop-production-init c = AddsToList-none _ c.args.list.now.items (no_occurrence_in_empty_alternatives c.args.expanded.now.instances)

pub loop-production-preserved : goal.loop-production-preserved
loop-production-preserved c = each_listed c.args.expanded.now.instances c.args.productions.now c.loop-production.production-index c.production-item.result c.args.list.now.items c.loop-production.list.items c.list_side.new.list.items c.loop-production-test.true c.production-item.is c.loop-production.invariant (rw c.as_slice.ensures at c.in_ok-list_side.ensures)
