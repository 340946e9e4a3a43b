use Rattle.std.proofs.Common.{arith}
use Rattle.mh_check.proofs.Missing.{missing_step}
use Rattle.mh_check.proofs.compiled.compare.Goals as goal

pub loop-state-preserved : goal.loop-state-preserved
loop-state-preserved c =
    missing_step c.args.left.now c.args.right.now c.loop-state.states.items c.put_missing.new.states.items c.loop-state.state (omega arith) c.in_ok-put_missing.ensures c.loop-state.invariant
