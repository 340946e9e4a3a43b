use Rattle.std.proofs.Common.{◌≡◌, arith}
use Rattle.mh_pager.proofs.KeptFirst.{placed_next}
use Rattle.mh_pager.proofs.starts.kept_first.Goals as goal

pub loop-start-preserved : goal.loop-start-preserved
loop-start-preserved c = placed_next c.loop-start.states.keys c.place_state.new.states.keys c.loop-start.start c.in_ok-place_state.field-0 c.loop-start.invariant c.in_ok-place_state.ensures

pub returns : goal.returns
returns c = let whole : c.loop-start.start ≡ c.args.starts = omega (arith, c.loop-start.auto.start-end, c.loop-start-test.false) in rw whole at c.loop-start.invariant
