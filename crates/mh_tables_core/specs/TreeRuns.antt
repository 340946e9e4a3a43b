-- The end of a run with trees. The limit of depth is this project's own.
use Rattle.std.specs.Prelude.{◌≡◌, ◌≤◌, ℕ, true, List, [], ◌∷◌, length, take}
use Rattle.mh_grammar.specs.Plain.{start_symbol}
use Rattle.mh_grammar.specs.Trees.{SyntaxTree, IsTreeFor, yield_of}
use Rattle.mh_tables_core.specs.Table.{TableData}
use Rattle.mh_tables_core.specs.Run.{initial, after, step, Ends, VerdictOf, Accepted, Overshot, Rejected}
use Rattle.mh_tables_core.specs.RunTrees.{trees_after}
use Rattle.mh_tables_core.specs.TooDeep.{too_deep}

-- The run of a start on w accepts after `read` tokens, and leaves exactly this tree.
pub record LeavesTree (t : TableData) (start : ℕ) (w : List ℕ) (read : ℕ) (tree : SyntaxTree) : Type 0 where
  pub steps : ℕ
  pub ends : step t (after t steps (initial start w)) ≡ Ends (Accepted read)
  pub trees : trees_after t steps (initial start w) [] ≡ tree ∷ []

-- The tree that the run leaves is a derivation tree for the start symbol, and its leaves are the tokens that were read.
pub record IsTreeOfRead (t : TableData) (start : ℕ) (w : List ℕ) (read : ℕ) (tree : SyntaxTree) : Type 0 where
  pub left : LeavesTree t start w read tree
  pub within : read ≤ length w
  pub is : IsTreeFor t.grammar (start_symbol t.grammar start) tree
  pub spells : yield_of tree ≡ take read w

-- Some step of the run makes too many trees or too high a tree.
abbrev pub IsTooDeep : TableData → ℕ → List ℕ → Type 0
IsTooDeep t start w = (n : ℕ) × (too_deep (trees_after t n (initial start w) []) ≡ true)

-- The end of a run with trees.
pub data TreeEnding : Type 0 where
  AcceptedTree : (read : ℕ) → (tree : SyntaxTree) → TreeEnding
  OvershotTree : (state : ℕ) → TreeEnding
  RejectedTree : (at state : ℕ) → TreeEnding
  DeepTree : TreeEnding

-- The run ends so: with its verdict, and with its tree if it accepts, and no step is too deep; or some step is too
-- deep.
abbrev pub IsTreeEnding : TableData → ℕ → List ℕ → TreeEnding → Type 0
IsTreeEnding t start w (AcceptedTree read tree) = IsTreeOfRead t start w read tree × (IsTooDeep t start w → ⊥)
IsTreeEnding t start w (OvershotTree state) = VerdictOf t start w (Overshot state) × (IsTooDeep t start w → ⊥)
IsTreeEnding t start w (RejectedTree at state) = VerdictOf t start w (Rejected at state) × (IsTooDeep t start w → ⊥)
IsTreeEnding t start w DeepTree = IsTooDeep t start w
