use Rattle.std.proofs.Common.{arith}
use Rattle.mh_sample.proofs.TextsInParts.{times_none, times_push}
use Rattle.mh_sample.proofs.texts.write_times.Goals as goal

pub loop-init : goal.loop-init
loop-init c = record { text = times_none c.args.piece.now c.args.text.now.items; within = omega arith }

pub loop-preserved : goal.loop-preserved
loop-preserved c = record {
  text = times_push c.loop.counter c.args.piece.now c.loop.text.items c.extend_from_slice.new.self.items c.args.text.now.items c.loop.invariant.text c.in_ok-extend_from_slice.ensures.items;
  within = omega arith;
}
