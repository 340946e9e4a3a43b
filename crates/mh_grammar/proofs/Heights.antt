-- Lemmas on the height of a list of trees: no tree of the list is higher than the list.
use Rattle.std.proofs.Common.{◌≡◌, ℕ, zero, suc, max, ◌≤◌, ◌<◌, List, [], ◌∷◌, ◌++◌, length, slice_index_or, arith, subst, sym}
use Rattle.mh_grammar.specs.Trees.{SyntaxTree, height_of, forest_height, forest_of}

pub height_le : (trees : List SyntaxTree) (i : ℕ) (d : SyntaxTree) → i < length trees → height_of (slice_index_or trees i d) ≤ forest_height (forest_of trees)
height_le [] i d below = omega (arith, below)
height_le (tree ∷ trees) zero d below = omega arith
height_le (tree ∷ trees) (suc i) d below = omega (arith, height_le trees i d (omega (arith, below)))

pub item_height_le : (trees : List SyntaxTree) (i : ℕ) (tree : SyntaxTree) → i < length trees → tree ≡ slice_index_or trees i tree → height_of tree ≤ forest_height (forest_of trees)
item_height_le trees i tree below is = subst (λ t. height_of t ≤ forest_height (forest_of trees)) (sym is) (height_le trees i tree below)

pub heights_append : (a b : List SyntaxTree) → forest_height (forest_of (a ++ b)) ≡ max (forest_height (forest_of a)) (forest_height (forest_of b))
heights_append [] b = omega arith
heights_append (x ∷ a) b = omega (arith, heights_append a b)
