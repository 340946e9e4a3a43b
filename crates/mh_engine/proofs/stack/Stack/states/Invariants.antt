use Rattle.std.proofs.Common.{length}
use Rattle.mh_engine.proofs.CellStates.{AreReadStates}
use Rattle.mh_engine.proofs.stack.Stack.states.Given as goal

abbrev pub invariant-cells : goal.invariant-cells
invariant-cells l = AreReadStates l.fn.self.states l.rest.states l.states.items

abbrev pub decreases-cells : goal.decreases-cells
decreases-cells l = length l.rest.trees
