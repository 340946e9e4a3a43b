use Rattle.std.proofs.Common.{length, refl}
use Rattle.std.proofs.lemmas.Option.{slice_get_read}
use Rattle.mh_inline.specs.code.MovableProducers.{IsLastUse}
use Rattle.mh_inline.proofs.MovedUnfoldings.{candidate_of, larger_one}
use Rattle.mh_inline.proofs.moving.last_use.Goals as goal

pub loop-alternative-preserved : goal.loop-alternative-preserved
loop-alternative-preserved c =
    let is = c.args.expanded.now.instances in
    let ps = c.args.productions.now in
    let k = c.loop-alternative.alternative in
    let p = c.index-productions-alternative.result in
    larger_one (IsLastUse is c.args.last.now c.args.place ps) c.loop-alternative.best c.last_use_in-next.result c.larger-best.result c.loop-alternative.invariant (candidate_of is c.args.last.now c.args.place k ps p c.last_use_in-next.result (slice_get_read ps (length ps) k p refl c.loop-alternative-test.true c.index-productions-alternative.is) (rw c.as_slice-producers.ensures at c.last_use_in-next.ensures)) c.larger-best.ensures
