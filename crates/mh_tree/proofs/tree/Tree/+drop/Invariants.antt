use Rattle.std.proofs.Common.{◌<◌}
use Rattle.mh_grammar.specs.Trees.{height_of}
use Rattle.mh_tree.proofs.DroppedTrees.{all_nodes, greatest_height}
use Rattle.mh_tree.proofs.tree.Tree.+drop.Given as goal

-- The trees that are still to be dropped are lower than the tree.
abbrev pub invariant-trees : goal.invariant-trees
invariant-trees l = greatest_height l.waiting.items < height_of l.fn.self

abbrev pub decreases-trees : goal.decreases-trees
decreases-trees l = all_nodes l.waiting.items
