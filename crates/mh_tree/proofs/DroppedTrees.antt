-- Lemmas on the number of nodes and the height of the trees that are still to be dropped.
use Rattle.std.proofs.Common.{◌≡◌, ℕ, suc, max, ◌+◌, ◌*◌, ◌<◌, ◌≤◌, List, [], ◌∷◌, ◌++◌, Bool, true, false, cond, arith}
use denote.Param.Weighed.{most, w_this}
use Rattle.mh_tree.specs.declared.tree.Tree.{Tree}
use Rattle.mh_tree.specs.declared.tree.Tree.TheDeep.{size-Tree}
use Rattle.mh_grammar.proofs.Heights.{heights_append}
use Rattle.mh_grammar.specs.Trees.{SyntaxTree, Forest, Leaf, Node, Nil, Cons, forest_of, height_of, forest_height}

abbrev mutual
  pub nodes : SyntaxTree → ℕ
  nodes (Leaf z) = 1
  nodes (Node p kids) = suc (forest_nodes kids)

  pub forest_nodes : Forest → ℕ
  forest_nodes Nil = 0
  forest_nodes (Cons first rest) = nodes first + forest_nodes rest

abbrev pub all_nodes : List SyntaxTree → ℕ
all_nodes trees = forest_nodes (forest_of trees)

abbrev pub greatest_height : List SyntaxTree → ℕ
greatest_height trees = forest_height (forest_of trees)

nodes_append : (a b : List SyntaxTree) → all_nodes (a ++ b) ≡ all_nodes a + all_nodes b
nodes_append [] b = omega arith
nodes_append (x ∷ a) b = omega (arith, nodes_append a b)

nodes_positive : (tree : SyntaxTree) → 0 < nodes tree
nodes_positive (Leaf z) = omega arith
nodes_positive (Node p kids) = omega arith

-- The heights and the number of nodes after the last tree is removed from the list.
pub popped_heights : (old new : List SyntaxTree) (tree : SyntaxTree) → old ≡ new ++ tree ∷ [] → (greatest_height new ≤ greatest_height old) × (height_of tree ≤ greatest_height old)
popped_heights old new tree e = let h = heights_append new (tree ∷ []) in rw e (omega arith, omega arith)

popped_nodes : (old new : List SyntaxTree) (tree : SyntaxTree) → old ≡ new ++ tree ∷ [] → all_nodes old ≡ all_nodes new + nodes tree
popped_nodes old new tree e = let h = nodes_append new (tree ∷ []) in rw e (omega arith)

pub popped_fewer : (old new : List SyntaxTree) (tree : SyntaxTree) → old ≡ new ++ tree ∷ [] → all_nodes new < all_nodes old
popped_fewer old new tree e = let p = nodes_positive tree in let n = popped_nodes old new tree e in omega arith

-- Bounds on the number of nodes and on the heights, if the children of the removed tree are appended to the list (b is
-- true) or dropped (b is false).
joined_nodes : (b : Bool) (new kids after : List SyntaxTree) → after ≡ cond b (new ++ kids) new → all_nodes after ≤ all_nodes new + all_nodes kids
joined_nodes true new kids after e = let h = nodes_append new kids in rw e (omega arith)
joined_nodes false new kids after e = rw e (omega arith)

joined_heights : (b : Bool) (new kids after : List SyntaxTree) → after ≡ cond b (new ++ kids) new → greatest_height after ≤ max (greatest_height new) (greatest_height kids)
joined_heights true new kids after e = let h = heights_append new kids in rw e (omega arith)
joined_heights false new kids after e = rw e (omega arith)

pub kids_lower : (old new kids : List SyntaxTree) (tree : SyntaxTree) (p : ℕ) → old ≡ new ++ tree ∷ [] → tree ≡ Node p (forest_of kids) → greatest_height kids < greatest_height old
kids_lower old new kids tree p e is =
    let h = popped_heights old new tree e in
    let low : height_of (Node p (forest_of kids)) ≤ greatest_height old = rw is at h.1 in omega arith

pub joined_lower : (b : Bool) (old new kids after : List SyntaxTree) (tree : SyntaxTree) (p : ℕ) → old ≡ new ++ tree ∷ [] → tree ≡ Node p (forest_of kids) → after ≡ cond b (new ++ kids) new → greatest_height after ≤ greatest_height old
joined_lower b old new kids after tree p e is a =
    let h = popped_heights old new tree e in
    let low = h.0 in
    let k = kids_lower old new kids tree p e is in
    let j = joined_heights b new kids after a in omega arith

pub joined_fewer : (b : Bool) (old new kids after : List SyntaxTree) (tree : SyntaxTree) (p : ℕ) → old ≡ new ++ tree ∷ [] → tree ≡ Node p (forest_of kids) → after ≡ cond b (new ++ kids) new → all_nodes after < all_nodes old
joined_fewer b old new kids after tree p e is a =
    let n : all_nodes old ≡ all_nodes new + nodes (Node p (forest_of kids)) = rw is at (popped_nodes old new tree e) in
    let j = joined_nodes b new kids after a in omega arith

-- Dropping children at once does not raise the greatest height.
pub dropped_low : (b : Bool) (kids after : List SyntaxTree) → after ≡ cond b [] kids → greatest_height after ≤ greatest_height kids
dropped_low true kids after e = rw e (omega arith)
dropped_low false kids after e = rw e (omega arith)

-- The measure of a recursion over a list of trees is at most twice the greatest height plus two.
pub recursion_measure_bound : (kids : List SyntaxTree) → most (w_this.weight Tree size-Tree) kids ≤ 2 * (greatest_height kids + 1)
recursion_measure_bound [] = omega arith
recursion_measure_bound (x ∷ kids) = omega (arith, recursion_measure_bound kids)
