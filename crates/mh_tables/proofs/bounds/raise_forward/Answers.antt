use Rattle.std.proofs.Common.{◌∙◌}
use Rattle.std.proofs.lemmas.Bool.{or_parts}
use Rattle.mh_tables.proofs.BoundsProveHalting.{lifts_more, lifts_all}
use Rattle.mh_tables.proofs.bounds.raise_forward.Goals as goal

pub loop-passage-preserved : goal.loop-passage-preserved
loop-passage-preserved c = record {
  size = c.raise-lower.ensures.size ∙ c.loop-passage.invariant.size;
  lifted = λ e. (
      let still = or_parts c.loop-passage.lower c.raise-lower.result e in
      lifts_more c.loop-passage.bounds.items c.raise-lower.new.bounds.items c.args.passages.now c.loop-passage.passage-index (record { from = 0; to = 0; count = 0 }) c.loop-passage-test.true (c.raise-lower.ensures.same still.1)
      (c.raise-lower.ensures.high_enough still.1) (c.loop-passage.invariant.lifted still.0));
}

pub returns-clause-high_enough : goal.returns-clause-high_enough
returns-clause-high_enough c = λ still. lifts_all c.loop-passage.bounds.items c.args.passages.now c.loop-passage.passage-index c.loop-passage-test.false (c.loop-passage.invariant.lifted still)
