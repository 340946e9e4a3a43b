-- The canonical collection of LR(1) item sets and its numbering (Knuth 1965): the item sets that are reached from the
-- start kernels, each once, in the order of a breadth-first search.
use Rattle.std.specs.Prelude.{◌≡◌, ◌<◌, ℕ, List, Some, length, map, slice_get}
use Rattle.std.specs.List.{All, concat}
use Rattle.mh_grammar.specs.declared.types.Symbol.{Symbol}
use Rattle.mh_grammar.specs.Plain.{PlainGrammar}
use Rattle.mh_grammar.specs.Edges.{IsRising, IsEdgeBefore}
use Rattle.mh_grammar.specs.ItemSets.{ItemSet, AreSameItems, StartItems, PathItems}
use Rattle.mh_grammar.specs.Numbering.{InFirstSightOrder}
use Rattle.mh_items_kernels.specs.KernelTypes.{Automaton}
use Rattle.mh_items_kernels.specs.Kernels.{IsItemList}
use Rattle.mh_items_kernels.specs.Collection.{HasItem, targets_of}
use Rattle.mh_items_kernels.specs.Automaton.{kernel_at, kernel_of, edges_at, leads_to, move_of, HasMove}

-- A path of symbols leads from a start to the item set I.
pub record IsReachedSet (g : PlainGrammar) (I : ItemSet) : Type 0 where
  pub start : ℕ
  pub path : List Symbol
  pub known : start < length g.starts
  pub same : AreSameItems I (PathItems g start path)

-- The targets of all edges, state by state.
abbrev pub all_targets : Automaton → List ℕ
all_targets a = concat (map targets_of a.edges)

-- The automaton is the canonical collection of the grammar (Knuth 1965), numbered breadth-first.
pub record IsCanonical (g : PlainGrammar) (a : Automaton) : Type 0 where
  -- Each kernel lists its set of items in the one form of such lists (`IsItemList`), and is not empty.
  pub each : (s : ℕ) → s < length a.kernels → IsItemList g (kernel_at a s) × HasItem (kernel_of a s)
  pub rows : length a.edges ≡ length a.kernels
  -- The start kernels come first.
  pub starts : (i : ℕ) → i < length g.starts → (i < length a.kernels) × AreSameItems (kernel_of a i) (StartItems i)
  -- The states are the nonempty item sets that are reached, each once.
  pub sound : (s : ℕ) → s < length a.kernels → IsReachedSet g (kernel_of a s)
  pub complete : (i : ℕ) (path : List Symbol) → i < length g.starts → HasItem (PathItems g i path) → (s : ℕ) × (s < length a.kernels) × AreSameItems (kernel_of a s) (PathItems g i path)
  pub distinct : (s u : ℕ) → s < length a.kernels → u < length a.kernels → AreSameItems (kernel_of a s) (kernel_of a u) → s ≡ u
  -- The edges of a state rise by symbol. There is one for each symbol that moves an item of its closure, and it leads
  -- to the set of the moved items.
  pub order : (s : ℕ) → s < length a.kernels → IsRising IsEdgeBefore (edges_at a s)
  pub edge : (s : ℕ) (X : Symbol) → s < length a.kernels → HasMove g a s X → (u : ℕ) × (leads_to a s X ≡ Some u)
  pub target : (s : ℕ) (X : Symbol) (u : ℕ) → leads_to a s X ≡ Some u → HasMove g a s X × (u < length a.kernels) × AreSameItems (kernel_of a u) (move_of g a s X)
  -- State by state, each edge leads to a state that was found before or to the next new state.
  pub breadth_first : InFirstSightOrder (length g.starts) (all_targets a) (length a.kernels)

-- A start and a path of symbols, the newest symbol first.
pub record StartPath : Type 0 where
  pub start : ℕ
  pub path : List Symbol

-- The item set that a path from a start leads to.
abbrev pub items_of_path : PlainGrammar → StartPath → ItemSet
items_of_path g w = PathItems g w.start w.path

-- The path begins at a start of the grammar and leads to a nonempty item set.
pub record ReachesItems (g : PlainGrammar) (w : StartPath) : Type 0 where
  pub known : w.start < length g.starts
  pub has_item : HasItem (items_of_path g w)

-- More different nonempty item sets are reached than the limit admits (Knuth 1965; the limit is this project's own).
pub record CanonicalExceeds (g : PlainGrammar) (limit : ℕ) : Type 0 where
  pub paths : List StartPath
  pub each : All (ReachesItems g) paths
  pub distinct : (i j : ℕ) (v w : StartPath) → slice_get paths i ≡ Some v → slice_get paths j ≡ Some w → AreSameItems (items_of_path g v) (items_of_path g w) → i ≡ j
  pub exceeds : limit < length paths
