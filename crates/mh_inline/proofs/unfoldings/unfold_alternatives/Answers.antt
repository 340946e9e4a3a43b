use Rattle.std.proofs.Common.{length, refl, subst, arith}
use Rattle.std.proofs.lemmas.List.{take_all}
use Rattle.std.proofs.lemmas.Option.{slice_get_read}
use Rattle.mh_inline_unfold.specs.Unfoldings as unfoldings
use Rattle.mh_inline.proofs.AreKnown.{UnfoldsEach-more}
use Rattle.mh_inline.proofs.unfoldings.unfold_alternatives.Goals as goal

pub loop-production-init : goal.loop-production-init
loop-production-init c = rw c.new-all.ensures.items unfoldings.UnfoldsEach.no_alternative

pub unfold_side-requires : goal.unfold_side-requires
unfold_side-requires c =
    let ps = c.args.productions.now in
    rw c.as_slice.ensures (c.requires.each c.loop-production.production-index c.production-item.result (slice_get_read ps (length ps) c.loop-production.production-index c.production-item.result refl c.loop-production-test.true c.production-item.is))

pub loop-production-preserved : goal.loop-production-preserved
loop-production-preserved c = UnfoldsEach-more c.args.expanded.now.instances c.args.productions.now c.loop-production.production-index c.production-item.result c.loop-production.all.items c.in_ok-side.side.items c.add_own.new.all.items c.loop-production-test.true c.production-item.is c.loop-production.invariant (rw c.as_slice.ensures at c.in_ok-side.ensures) c.in_ok-add_own.ensures

pub returns : goal.returns
returns c = subst (λ ps. unfoldings.UnfoldsEach c.args.expanded.now.instances ps c.loop-production.all.items) (take_all c.loop-production.production-index c.args.productions.now (omega arith)) c.loop-production.invariant
