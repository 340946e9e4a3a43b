use Rattle.std.proofs.Common.{◌≡◌, arith, length}
use Rattle.mh_reach.proofs.BestCandidate.{all_begin, all_step}
use Rattle.mh_reach.proofs.candidates.all_best.Goals as goal

pub loop-state-init : goal.loop-state-init
loop-state-init c = rw c.new-all.ensures.items (all_begin c.args.table.now c.args.classes.now c.args.spots.now.book c.args.spots.now.spots)

pub loop-state-preserved : goal.loop-state-preserved
loop-state-preserved c = rw c.in_ok-push.ensures.items (all_step c.args.table.now c.args.classes.now c.args.spots.now.book c.args.spots.now.spots c.loop-state.state c.loop-state.all.items c.in_ok-best.best c.loop-state.invariant c.in_ok-best.ensures)

pub returns : goal.returns
returns c = let e : c.loop-state.state ≡ length c.args.table.now.states = (let a = c.loop-state-test.false in let b = c.loop-state.auto.state-end in let d = c.states-state-end.ensures in omega arith) in rw e at c.loop-state.invariant
