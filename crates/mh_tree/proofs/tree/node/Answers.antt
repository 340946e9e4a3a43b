use Rattle.std.proofs.Common.{rules}
use Rattle.mh_tree.proofs.tree.node.Goals as goal

pub invariant_of-result : goal.invariant_of-result
invariant_of-result c = search rules
