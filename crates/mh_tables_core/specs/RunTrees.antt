-- The trees of a run, in parallel to the states of its stack.
use Rattle.std.specs.Prelude.{◌≡◌, ℕ, zero, suc, List, [], ◌∷◌, ◌++◌, length, take, drop, slice_index, slice_index_or, Some, ◌-◌, ◌+◌, ◌<◌}
use Rattle.mh_grammar.specs.declared.types.Symbol.{Symbol}
use Rattle.mh_grammar.specs.Plain.{rhs_of}
use Rattle.mh_grammar.specs.Trees.{SyntaxTree, Leaf, Node, IsTreeFor, forest_of, yield_of}
use Rattle.mh_tables_core.specs.Table.{TableData, edge_of}
use Rattle.mh_tables_core.specs.Run.{Config, RunMove, Accepts, Asks, Refuses, Shifts, Reduces, run_move_of, top_of, step, next_of}

-- The trees after a move: a shift appends a leaf, and a reduction replaces the last trees, one for each symbol of the
-- right side, by a node over them (Knuth 1965).
abbrev pub trees_after_move : TableData → RunMove → List ℕ → List SyntaxTree → List SyntaxTree
trees_after_move t Accepts left trees = trees
trees_after_move t Asks left trees = trees
trees_after_move t Refuses left trees = trees
trees_after_move t (Shifts j) [] trees = trees
trees_after_move t (Shifts j) (z ∷ left) trees = trees ++ Leaf z ∷ []
trees_after_move t (Reduces p) left trees =
    let kept = length trees - length (rhs_of t.grammar p) in take kept trees ++ Node p (forest_of (drop kept trees)) ∷ []

-- The trees after n steps.
abbrev pub trees_after : TableData → ℕ → Config → List SyntaxTree → List SyntaxTree
trees_after t zero c trees = trees
trees_after t (suc n) c trees = trees_after t n (next_of c (step t c)) (trees_after_move t (run_move_of t (top_of c.stack) c.left) c.left trees)

-- The trees match a stack: each is a tree for the symbol of its edge.
pub record TreesMatchStack (t : TableData) (stack : List ℕ) (trees : List SyntaxTree) : Type 0 where
  pub start : slice_index stack 0 < length t.grammar.starts
  pub len : length stack ≡ length trees + 1
  pub each : (k : ℕ) → k < length trees → (x : Symbol) × (edge_of t (slice_index stack k) x ≡ Some (slice_index stack (k + 1))) × IsTreeFor t.grammar x (slice_index_or trees k (Leaf 0))

-- The tokens of a list of trees, concatenated.
abbrev pub yields : List SyntaxTree → List ℕ
yields [] = []
yields (tree ∷ trees) = yield_of tree ++ yields trees

-- A configuration of the run on w: its trees match its stack, and spell the tokens that were read.
pub record TreesMatchRun (t : TableData) (w : List ℕ) (c : Config) (trees : List SyntaxTree) : Type 0 where
  pub match_stack : TreesMatchStack t c.stack trees
  pub spells : yields trees ++ c.left ≡ w
  pub count : length (yields trees) ≡ c.read
