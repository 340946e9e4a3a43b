-- The meaning of a `TreeOutcome` of the code.
use Rattle.mh_tables_core.specs.TreeRuns.{TreeEnding, AcceptedTree, OvershotTree, RejectedTree, DeepTree}
use Rattle.mh_engine.specs.declared.sentence.TreeOutcome.{TreeOutcome}
use Rattle.mh_engine.specs.declared.sentence.TreeOutcome.TheVariants as outcomes

-- The ending of a run with trees that an outcome reports.
abbrev pub tree_ending_for : TreeOutcome → TreeEnding
tree_ending_for (outcomes.Accept read tree) = AcceptedTree read tree
tree_ending_for (outcomes.Overshoot state) = OvershotTree state
tree_ending_for (outcomes.Reject at state) = RejectedTree at state
tree_ending_for outcomes.TooDeep = DeepTree
