use Rattle.std.proofs.Common.{length}
use Rattle.mh_engine.proofs.stack.Stack.drop.Given as goal

abbrev pub decreases-loop-cell : goal.decreases-loop-cell
decreases-loop-cell l = length l.self.trees
