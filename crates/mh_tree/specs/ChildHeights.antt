-- Proves that a child is lower than its parent.
use Rattle.std.specs.Prelude.{◌≤◌, max}
use Rattle.std.proofs.Common.{arith}
use Rattle.mh_tree.specs.declared.tree.Shape.{Shape}
use Rattle.mh_tree.specs.declared.tree.Shape.TheVariants as shape
use Rattle.mh_tree.specs.declared.tree.Tree.TheDeep.{deep-Shape}
use Rattle.mh_grammar.specs.Trees.{height_of}
use Rattle.mh_tree.specs.Shapes.{tree_of, most_le-forest_height}

-- One more than the height of a node's highest child (`deep-Shape`) is at most the height of the node's tree, so each
-- child is lower than its parent. A leaf has no child.
pub depth_le-height : (s : Shape) → max (deep-Shape s) 0 ≤ height_of (tree_of s)
depth_le-height (shape.Leaf z) = omega arith
depth_le-height (shape.Node p kids) = omega (arith, most_le-forest_height kids.items)
