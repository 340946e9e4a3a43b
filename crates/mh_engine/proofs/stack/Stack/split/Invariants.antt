use Rattle.mh_engine.proofs.StackSplit.{SplitInvariant}
use Rattle.mh_engine.proofs.stack.Stack.split.Given as goal

abbrev pub invariant-loop : goal.invariant-loop
invariant-loop l = SplitInvariant l.counter l.fn.self l.below l.trees.items
