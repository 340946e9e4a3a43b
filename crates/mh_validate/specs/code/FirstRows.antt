-- The first states of a file whose edges are right, and the actions of these states.
use Rattle.std.specs.Prelude.{◌≡◌, ◌<◌, ◌≤◌, ℕ, List, [], length, slice_index_or}
use Rattle.mh_grammar.specs.declared.types.Grammar.{Grammar}
use Rattle.mh_grammar.specs.declared.edges.Edge.{Edge}
use Rattle.mh_items_kernels.specs.KernelTypes.{Kernel}
use Rattle.mh_tables_core.specs.declared.parts.StateParts.{StateParts}
use Rattle.mh_tables_core.specs.Table.{no_state}
use Rattle.mh_tabfile_form.specs.declared.types.RawTable.{RawTable}
use Rattle.mh_validate_valid.specs.Valid.{HasEdges, IsResolvedAt}

-- The edges of the first states, up to the first state whose edges are wrong.
pub record AreFirstRows (g : Grammar) (raw : RawTable) (ks : List Kernel) (rows : List (List Edge)) : Type 0 where
  pub within : length rows ≤ length raw.states
  pub each : (s : ℕ) → s < length rows → HasEdges g raw ks s (slice_index_or rows s [])
  pub none : length rows < length raw.states → (edges : List Edge) → HasEdges g raw ks (length rows) edges → ⊥

-- The edges of all states.
pub record AreRows (g : Grammar) (raw : RawTable) (ks : List Kernel) (rows : List (List Edge)) : Type 0 where
  pub count : length rows ≡ length raw.states
  pub each : (s : ℕ) → s < length raw.states → HasEdges g raw ks s (slice_index_or rows s [])

-- The actions of the states whose edges are given, as conflict resolution gives them.
pub record AreResolvedRows (g : Grammar) (raw : RawTable) (ks : List Kernel) (rows : List (List Edge)) (parts : List StateParts) : Type 0 where
  pub count : length parts ≡ length rows
  pub each : (s : ℕ) → s < length rows → IsResolvedAt g raw ks s (slice_index_or rows s []) (slice_index_or parts s no_state)
