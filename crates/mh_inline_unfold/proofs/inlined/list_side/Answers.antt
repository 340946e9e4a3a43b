use Rattle.mh_rules.specs.declared.instances.Part.TheVariants.{Token}
use Rattle.mh_inline_unfold.proofs.Occurrences.{no_occurrence_in_empty_producers}
use Rattle.mh_inline_unfold.proofs.AddsToList.{AddsToList-none, side_listed}
use Rattle.mh_inline_unfold.proofs.inlined.list_side.Goals as goal

pub loop-part-init : goal.loop-part-init
loop-part-init c = AddsToList-none _ c.args.list.now.items (no_occurrence_in_empty_producers c.args.expanded.now.instances)

pub loop-part-preserved : goal.loop-part-preserved
loop-part-preserved c = side_listed c.args.expanded.now.instances c.args.producers.now c.loop-part.part-index (Token 0) c.args.list.now.items c.loop-part.list.items c.list_part.new.list.items c.loop-part-test.true c.loop-part.invariant c.in_ok-list_part.ensures
