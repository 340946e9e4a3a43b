use Rattle.std.proofs.Common.{◌+◌, ◌-◌, ◌*◌}
use Rattle.mh_engine.proofs.SettleLoop.{SettleInvariant}
use Rattle.mh_engine.proofs.reductions.settle.Given as goal

abbrev pub invariant-reductions : goal.invariant-reductions
invariant-reductions l = SettleInvariant l.fn.from l.at l.floor l.count

-- In each turn `floor` falls, or one fewer of at most 10,000 reductions is left above it.
abbrev pub decreases-reductions : goal.decreases-reductions
decreases-reductions l = 10001 * l.floor + (10000 - l.count)
