-- The states that the starts reach, and their new numbers, during the numbering.
use Rattle.std.specs.Prelude.{◌≡◌, ◌<◌, ◌≤◌, ℕ, List, Some, length, map, slice_get}
use Rattle.std.specs.List.{All, AllZip, range_with_len}
use Rattle.mh_grammar.specs.declared.edges.Edge.{Edge}
use Rattle.mh_grammar.specs.Numbering.{AreDistinct, IsNumbering}
use Rattle.mh_grammar.specs.Placed.{AllPlaced}
use Rattle.mh_items_kernels.specs.Collection.{targets_of, edge_symbols}
use Rattle.mh_pager.specs.MergeSteps.{HasTargets, HasSymbolsOfRow}
use Rattle.mh_canon.specs.Limits.{max_states}

-- The numbers are different and below the upper bound `count`.
pub record AreDistinctBelow (count : ℕ) (states : List ℕ) : Type 0 where
  pub distinct : AreDistinct states
  pub below : All (λ n. n < count) states

-- The states, and the targets of a row, are below some number of states that is within `max_states`.
pub record AreWithinLimit (states : List ℕ) (row : List Edge) : Type 0 where
  pub count : ℕ
  pub few : count ≤ max_states
  pub below : AreDistinctBelow count states
  pub targets : All (λ t. t < count) (targets_of row)

-- The new row has the symbols of the old row and the new numbers of its targets; states without a number were appended.
pub record IsRenumbered (row new : List Edge) (old states : List ℕ) : Type 0 where
  pub symbols_are : edge_symbols new ≡ edge_symbols row
  pub placed : AllPlaced old states (targets_of row) (targets_of new)

-- The list holds the states that the starts reach, with their renumbered edges.
pub record AreReachedStates (starts : ℕ) (rows : List (List Edge)) (states : List ℕ) (edges : List (List Edge)) : Type 0 where
  pub numbering : IsNumbering (HasTargets rows) (range_with_len 0 starts) states (map targets_of edges)
  pub symbols : AllZip (HasSymbolsOfRow rows) states edges
  pub below : All (λ n. n < length rows) states

-- Each target of a row is the number of a row.
pub record AreTargetsInRange (rows : List (List Edge)) : Type 0 where
  pub targets : (n : ℕ) (row : List Edge) → slice_get rows n ≡ Some row → All (λ t. t < length rows) (targets_of row)
