use Rattle.mh_rules.specs.declared.instances.Part.TheVariants.{Token}
use Rattle.mh_inline_unfold.proofs.Occurrences.{no_occurrence_in_empty_producers}
use Rattle.mh_inline.proofs.AddsFound.{AddsFound-none, IsFoundTable-after, side_step}
use Rattle.mh_inline.proofs.cycles.add_side.Goals as goal

pub loop-part-init : goal.loop-part-init
loop-part-init c = AddsFound-none _ c.args.found.now c.requires.sets (no_occurrence_in_empty_producers c.args.expanded.now.instances)

pub add_part-requires : goal.add_part-requires
add_part-requires c = IsFoundTable-after c.args.expanded.now.instances _ c.args.found.now c.loop-part.found c.requires c.loop-part.invariant

pub loop-part-preserved : goal.loop-part-preserved
loop-part-preserved c = side_step c.args.expanded.now.instances c.args.producers.now c.loop-part.part-index (Token 0) c.args.found.now c.loop-part.found c.add_part.new.found c.loop-part-test.true c.loop-part.invariant c.in_ok-add_part.ensures
