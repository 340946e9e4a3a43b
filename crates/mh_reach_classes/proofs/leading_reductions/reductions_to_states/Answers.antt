use Rattle.std.proofs.Common.{◌≡◌, arith, length}
use Rattle.mh_reach_classes.proofs.AllReductions.{reductions_begin, reductions_step, reductions_end}
use Rattle.mh_reach_classes.proofs.leading_reductions.reductions_to_states.Goals as goal

pub loop-from-init : goal.loop-from-init
loop-from-init c = reductions_begin c.args.table.now c.new-past.result.keys c.new-past.ensures.len

pub loop-from-preserved : goal.loop-from-preserved
loop-from-preserved c = reductions_step c.args.table.now c.facts.ensures c.loop-from.from c.loop-from.past.keys c.note_in.new.past.keys (let a = c.loop-from-test.true in let b = c.states-from-end.ensures in omega arith) c.loop-from.invariant c.in_ok-note_in.ensures

pub returns : goal.returns
returns c = let e : c.loop-from.from ≡ length c.args.table.now.states = (let a = c.loop-from-test.false in let b = c.loop-from.auto.from-end in let d = c.states-from-end.ensures in omega arith) in reductions_end c.args.table.now c.facts.ensures c.loop-from.past.keys (rw e at c.loop-from.invariant)
