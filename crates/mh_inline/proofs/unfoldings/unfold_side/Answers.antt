use Rattle.mh_rules.specs.declared.instances.Part.TheVariants.{Token}
use Rattle.mh_inline_unfold.specs.Unfoldings as unfoldings
use Rattle.mh_inline.proofs.AreKnown.{known_at, Unfolds-more}
use Rattle.mh_inline.proofs.unfoldings.unfold_side.Goals as goal

pub loop-part-init : goal.loop-part-init
loop-part-init c = rw c.in_ok-all.ensures unfoldings.Unfolds.none

pub unfold_part-requires : goal.unfold_part-requires
unfold_part-requires c = known_at c.args.expanded.now.instances c.args.known.now c.args.producers.now c.loop-part.part-index (Token 0) c.loop-part-test.true c.requires

pub loop-part-preserved : goal.loop-part-preserved
loop-part-preserved c = Unfolds-more c.args.expanded.now.instances c.args.producers.now c.loop-part.part-index (Token 0) c.loop-part.all.items c.unfold_part.new.all.items c.loop-part-test.true c.loop-part.invariant c.in_ok-unfold_part.ensures
