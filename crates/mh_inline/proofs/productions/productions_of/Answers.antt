use Rattle.mh_inline.specs.Inlined as inlined
use Rattle.mh_inline.proofs.MadeProductions.{AreProductions-more, no_origin}
use Rattle.mh_inline.proofs.productions.productions_of.Goals as goal

pub loop-origin-init : goal.loop-origin-init
loop-origin-init c = rw c.new-productions.ensures.items inlined.AreProductions.none

pub loop-origin-preserved : goal.loop-origin-preserved
loop-origin-preserved c = AreProductions-more c.args.expanded.now.tokens c.args.expanded.now.instances c.args.origins.now c.loop-origin.origin-index no_origin c.loop-origin.productions.items c.add_origin.new.productions.items c.loop-origin-test.true c.loop-origin.invariant c.in_ok-add_origin.ensures
