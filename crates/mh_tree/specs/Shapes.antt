-- The tree of a node with its children.
use Rattle.std.specs.Prelude.{◌+◌, ◌≤◌, List, [], ◌∷◌}
use Rattle.std.proofs.Common.{arith}
use denote.Param.Weighed.{most}
use Rattle.mh_tree.specs.declared.tree.Shape.{Shape}
use Rattle.mh_tree.specs.declared.tree.Shape.TheVariants as shape
use Rattle.mh_grammar.specs.Trees.{SyntaxTree, Leaf, Node, forest_of, height_of, forest_height}

abbrev pub tree_of : Shape → SyntaxTree
tree_of (shape.Leaf z) = Leaf z
tree_of (shape.Node p kids) = Node p (forest_of kids.items)

-- The height of each child is at most that of the forest.
pub most_le-forest_height : (kids : List SyntaxTree) → most (λ k. height_of k + 1) kids ≤ forest_height (forest_of kids) + 1
most_le-forest_height [] = omega arith
most_le-forest_height (k ∷ ks) = omega (arith, most_le-forest_height ks)
