use Rattle.std.proofs.Common.{get_or}
use Rattle.std.proofs.lemmas.Option.{slice_get-get_or}
use Rattle.mh_rules.specs.declared.instances.Part.TheVariants.{Token}
use Rattle.mh_inline.specs.code.MovableProducers.{IsLastUseIn}
use Rattle.mh_inline.proofs.MovedUnfoldings.{candidate_in, larger_one}
use Rattle.mh_inline.proofs.moving.last_use_in.Goals as goal

pub loop-producer-preserved : goal.loop-producer-preserved
loop-producer-preserved c =
    let is = c.args.expanded.now.instances in
    let Xs = c.args.producers.now in
    let j = c.loop-producer.producer in
    larger_one (IsLastUseIn is c.args.last.now c.args.place c.args.alternative Xs) c.loop-producer.best c.candidate-next.result c.larger-best.result c.loop-producer.invariant (candidate_in is c.args.last.now c.args.place c.args.alternative j Xs (get_or Xs j (Token 0)) c.candidate-next.result (slice_get-get_or Xs j (Token 0) c.loop-producer-test.true) c.candidate-next.ensures) c.larger-best.ensures
