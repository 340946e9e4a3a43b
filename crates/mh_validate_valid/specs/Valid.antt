-- The definition of a table file that is valid for a grammar: four tests in order, stated by names. The tests are this
-- project's own; automata are those of (Knuth 1965), and actions follow the (Menhir manual).
use Rattle.std.specs.Prelude.{◌≡◌, ◌<◌, ◌≤◌, ◌∷◌, ℕ, List, [], map, length, Bool, true, false, if◌then◌else◌, Option, Some, None, slice_index_or, codes}
use Rattle.std.specs.List.{AllByRecursion}
use Rattle.mh_grammar.specs.declared.types.Symbol.{Symbol}
use Rattle.mh_grammar.specs.declared.types.Look.TheVariants.{End}
use Rattle.mh_grammar.specs.declared.types.Grammar.{Grammar}
use Rattle.mh_grammar.specs.declared.types.TokenInfo.{TokenInfo}
use Rattle.mh_grammar.specs.declared.edges.Edge.{Edge}
use Rattle.mh_grammar.specs.Plain.{plain_of}
use Rattle.mh_grammar.specs.Names.{token_name, nonterminal_name}
use Rattle.mh_grammar.specs.Costs.{costs_of}
use Rattle.mh_tabfile_form.specs.TableContent.{raw_production, raw_item, raw_edge, raw_cells}
use Rattle.mh_grammar.specs.Edges.{IsRising, IsEdgeBefore, find_edge}
use Rattle.mh_items_kernels.specs.KernelTypes.{KernelItem, Kernel, Automaton}
use Rattle.mh_items_kernels.specs.Kernels.{IsItemList}
use Rattle.mh_items_kernels.specs.Automaton.{start_kernel, no_kernel, HasMove, IsTarget}
use Rattle.mh_tables_core.specs.declared.parts.StateParts.{StateParts}
use Rattle.mh_tables_core.specs.Table.{no_state}
use Rattle.mh_resolve_cells.specs.States.{IsResolved, closed_state}
use Rattle.mh_tabfile_form.specs.declared.types.RawCells.{RawCells}
use Rattle.mh_tabfile_form.specs.declared.types.RawCells.TheVariants as cells
use Rattle.mh_tabfile_form.specs.declared.types.RawState.{RawState}
use Rattle.mh_tabfile_form.specs.declared.types.RawTable.{RawTable}
use Rattle.mh_validate_valid.specs.declared.reason.Reason.{Reason}
use Rattle.mh_validate_valid.specs.declared.reason.Reason.TheVariants as reasons

-- Test 1: the header.

-- If the file has costs, they are those of the grammar's tokens.
abbrev pub AreCostsOf : Grammar → Option (List ℕ) → Type 0
AreCostsOf g None = Unit {0}
AreCostsOf g (Some costs) = costs ≡ costs_of g.tokens

pub record HasHeader (g : Grammar) (raw : RawTable) : Type 0 where
  pub tokens : raw.tokens ≡ map (λ (t : TokenInfo). t.name) g.tokens
  pub costs : AreCostsOf g raw.costs
  pub starts : raw.starts ≡ map (nonterminal_name g) g.starts
  pub productions : raw.productions ≡ map (raw_production g) g.productions

-- Test 2: there is at least one state for each start symbol.

abbrev pub HasStates : Grammar → RawTable → Type 0
HasStates g raw = length g.starts ≤ length raw.states

-- Test 3: kernels.

abbrev pub no_raw_state : RawState
no_raw_state = record { items = []; edges = []; cells = cells.Cells [] }

abbrev pub raw_state : RawTable → ℕ → RawState
raw_state raw s = slice_index_or raw.states s no_raw_state

-- An item of a start production has only the end of the stream as lookahead.
abbrev pub HasOnlyEndIfStart : Grammar → KernelItem → Type 0
HasOnlyEndIfStart g item = item.production < length g.starts → item.looks ≡ End ∷ []

-- The kernel is one that state `s` may have: a nonempty list of items, the start kernel if `s` is a start state, else
-- with each dot after some symbol.
pub record IsKernelAt (g : Grammar) (s : ℕ) (k : Kernel) : Type 0 where
  pub kernel : IsItemList (plain_of g) k
  pub filled : 0 < length k.items
  pub at_end : AllByRecursion (HasOnlyEndIfStart g) k.items
  pub start : s < length g.starts → k ≡ start_kernel s
  pub moved : length g.starts ≤ s → AllByRecursion (λ (item : KernelItem). 0 < item.dot) k.items

-- The items of state `s` of the file spell the kernel `k`, and the state may have this kernel.
pub record HasKernel (g : Grammar) (raw : RawTable) (s : ℕ) (k : Kernel) : Type 0 where
  pub spelled : (raw_state raw s).items ≡ map (raw_item g) k.items
  pub kernel : IsKernelAt g s k

-- These are the kernels of all states of the file.
pub record AreKernels (g : Grammar) (raw : RawTable) (ks : List Kernel) : Type 0 where
  pub count : length ks ≡ length raw.states
  pub each : (s : ℕ) → s < length raw.states → HasKernel g raw s (slice_index_or ks s no_kernel)

-- Test 4, state by state: edges, then cells or the default action.

-- An automaton with these kernels and without edges. Moves and targets depend on kernels only.
abbrev pub without_edges : List Kernel → Automaton
without_edges ks = record { kernels = ks; edges = [] }

-- The edges of state `s` are right: they rise, there is one for each symbol that moves an item, and the target of each
-- holds the moved items.
pub record AreEdgesAt (g : Grammar) (ks : List Kernel) (s : ℕ) (edges : List Edge) : Type 0 where
  pub order : IsRising IsEdgeBefore edges
  pub edge : (X : Symbol) → HasMove (plain_of g) (without_edges ks) s X → (u : ℕ) × (find_edge edges X ≡ Some u)
  pub target : (X : Symbol) (u : ℕ) → find_edge edges X ≡ Some u → HasMove (plain_of g) (without_edges ks) s X × IsTarget (plain_of g) (without_edges ks) s X u

pub record HasEdges (g : Grammar) (raw : RawTable) (ks : List Kernel) (s : ℕ) (edges : List Edge) : Type 0 where
  pub spelled : (raw_state raw s).edges ≡ map (raw_edge g) edges
  pub are_edges : AreEdgesAt g ks s edges

-- The actions that conflict resolution gives for state `s`.
abbrev pub IsResolvedAt : Grammar → RawTable → List Kernel → ℕ → List Edge → StateParts → Type 0
IsResolvedAt g raw ks s edges parts = IsResolved raw.mode (closed_state g (slice_index_or ks s no_kernel) edges) (slice_index_or ks s no_kernel) parts

-- State `s` of the file is right, with these edges and these actions.
pub record IsRightState (g : Grammar) (raw : RawTable) (ks : List Kernel) (s : ℕ) (edges : List Edge) (parts : StateParts) : Type 0 where
  pub has_edges : HasEdges g raw ks s edges
  pub resolved : IsResolvedAt g raw ks s edges parts
  pub has_cells : (raw_state raw s).cells ≡ raw_cells g parts

-- There is some cell line. If the lines of a state are not the right ones, `reason_of` gives the reported test: that of
-- the cells if cells are right or are there, else that of the default action.
abbrev pub has_cell_lines : RawCells → Bool
has_cell_lines (cells.Cells []) = false
has_cell_lines (cells.Cells (c ∷ cs)) = true
has_cell_lines (cells.Fallback f) = false

abbrev pub reason_of : RawCells → RawCells → Reason
reason_of due found = if has_cell_lines due then reasons.Cell else if has_cell_lines found then reasons.Cell else reasons.Fallback

-- The edges of state `s` are right, but its cells or its default action are not.
pub record HasWrongCells (g : Grammar) (raw : RawTable) (ks : List Kernel) (s : ℕ) (reason : Reason) : Type 0 where
  pub edges : List Edge
  pub parts : StateParts
  pub has_edges : HasEdges g raw ks s edges
  pub resolved : IsResolvedAt g raw ks s edges parts
  pub differ : (raw_state raw s).cells ≡ raw_cells g parts → ⊥
  pub reason_is : reason ≡ reason_of (raw_cells g parts) (raw_state raw s).cells

-- The whole file.

-- The file passes all tests, and spells this automaton and these states of its table.
pub record IsValidFor (g : Grammar) (raw : RawTable) (a : Automaton) (parts : List StateParts) : Type 0 where
  pub header : HasHeader g raw
  pub states : HasStates g raw
  pub kernels : AreKernels g raw a.kernels
  pub rows : length a.edges ≡ length raw.states
  pub count : length parts ≡ length raw.states
  pub each_state : (s : ℕ) → s < length raw.states → IsRightState g raw a.kernels s (slice_index_or a.edges s []) (slice_index_or parts s no_state)

abbrev pub IsValid : Grammar → RawTable → Type 0
IsValid g raw = (a : Automaton) × (parts : List StateParts) × IsValidFor g raw a parts

-- The first three tests pass, and the fourth passes for all states before `s`.
pub record IsRightBefore (g : Grammar) (raw : RawTable) (s : ℕ) : Type 0 where
  pub header : HasHeader g raw
  pub states : HasStates g raw
  pub kernels : List Kernel
  pub are_kernels : AreKernels g raw kernels
  pub known : s < length raw.states
  pub each_state : (u : ℕ) → u < s → (edges : List Edge) × (parts : StateParts) × IsRightState g raw kernels u edges parts

-- The first two tests pass, and the third passes for all states before `s`, but state `s` has no kernel.
pub record HasNoKernel (g : Grammar) (raw : RawTable) (s : ℕ) : Type 0 where
  pub header : HasHeader g raw
  pub states : HasStates g raw
  pub known : s < length raw.states
  pub before : (u : ℕ) → u < s → (k : Kernel) × HasKernel g raw u k
  pub none : (k : Kernel) → HasKernel g raw s k → ⊥

-- The first test that fails, with the state at which it fails, if the test is one of a state.
abbrev pub IsInvalidAt : Grammar → RawTable → Option ℕ → Reason → Type 0
IsInvalidAt g raw None reasons.Header = HasHeader g raw → ⊥
IsInvalidAt g raw None reasons.States = HasHeader g raw × (HasStates g raw → ⊥)
IsInvalidAt g raw (Some s) reasons.Kernel = HasNoKernel g raw s
IsInvalidAt g raw (Some s) reasons.Edge = (h : IsRightBefore g raw s) × ((edges : List Edge) → HasEdges g raw h.kernels s edges → ⊥)
IsInvalidAt g raw (Some s) reasons.Cell = (h : IsRightBefore g raw s) × HasWrongCells g raw h.kernels s reasons.Cell
IsInvalidAt g raw (Some s) reasons.Fallback = (h : IsRightBefore g raw s) × HasWrongCells g raw h.kernels s reasons.Fallback
IsInvalidAt g raw _ _ = ⊥

-- The names of the tokens are pairwise different, and none is `#`, the name of the end of the stream.
pub record AreTokenNamesDistinct (g : Grammar) : Type 0 where
  pub distinct : (y z : ℕ) → y < length g.tokens → z < length g.tokens → token_name g y ≡ token_name g z → y ≡ z
  pub no_end : (z : ℕ) → z < length g.tokens → token_name g z ≡ codes "#" → ⊥
