use Rattle.mh_inline_unfold.proofs.Occurrences.{no_occurrence_in_empty_alternatives}
use Rattle.mh_inline.proofs.AddsFound.{AddsFound-none, IsFoundTable-after, each_step}
use Rattle.mh_inline.proofs.cycles.add_alternatives.Goals as goal

pub loop-production-init : goal.loop-production-init
loop-production-init c = AddsFound-none _ c.args.found.now c.requires.sets (no_occurrence_in_empty_alternatives c.args.expanded.now.instances)

pub add_side-requires : goal.add_side-requires
add_side-requires c = IsFoundTable-after c.args.expanded.now.instances _ c.args.found.now c.loop-production.found c.requires c.loop-production.invariant

pub loop-production-preserved : goal.loop-production-preserved
loop-production-preserved c = each_step c.args.expanded.now.instances c.args.productions.now c.loop-production.production-index c.production-item.result c.args.found.now c.loop-production.found c.add_side.new.found c.loop-production-test.true c.production-item.is c.loop-production.invariant (rw c.as_slice.ensures at c.in_ok-add_side.ensures)
