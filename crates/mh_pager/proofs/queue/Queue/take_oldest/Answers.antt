use Rattle.std.proofs.Common.{arith}
use Rattle.mh_pager.proofs.AreFlagged.{flagged_rest, oldest_flag}
use Rattle.mh_pager.proofs.queue.Queue.take_oldest.Goals as goal

pub index_mut-requires : goal.index_mut-requires
index_mut-requires c = omega (arith, c.args.self.now.waits.ok.0, oldest_flag c.args.self.now.states.items _ c.in-Some.state c.args.self.now.waits.items c.requires c.in-Some.ensures.items)

pub returns-in-Some-clause-oldest : goal.returns-in-Some-clause-oldest
returns-in-Some-clause-oldest c = c.in-Some.ensures.items

pub returns-in-Some-clause-flagged : goal.returns-in-Some-clause-flagged
returns-in-Some-clause-flagged c = flagged_rest c.in-Some.state _ c.args.self.now.waits.items (rw c.in-Some.ensures.items at c.requires)
