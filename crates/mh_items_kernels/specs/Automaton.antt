-- The properties that all stages need of an automaton, whether it is canonical (Knuth 1965), merged (Pager 1977) or
-- read from a table file. Reachability of the states is not among them, because a table file may hold unreachable
-- states.
use Rattle.std.specs.Prelude.{◌≡◌, ◌<◌, ◌≤◌, ◌^◌, ℕ, List, [], ◌∷◌, Option, Some, length, slice_index_or}
use Rattle.mh_grammar.specs.declared.types.Symbol.{Symbol}
use Rattle.mh_grammar.specs.declared.types.Look.{Look}
use Rattle.mh_grammar.specs.declared.types.Look.TheVariants.{End}
use Rattle.mh_grammar.specs.declared.edges.Edge.{Edge}
use Rattle.mh_grammar.specs.Plain.{PlainGrammar}
use Rattle.mh_grammar.specs.Edges.{IsRising, IsEdgeBefore, find_edge}
use Rattle.mh_grammar.specs.ItemSets.{ItemSet, Close, Moved}
use Rattle.mh_items_kernels.specs.KernelTypes.{Kernel}
use Rattle.mh_items_kernels.specs.KernelTypes.{Automaton}
use Rattle.mh_items_kernels.specs.Kernels.{Holds, HasCoreItem, IsItemList}

-- The kernel that is returned for a number that is not that of a state.
abbrev pub no_kernel : Kernel
no_kernel = record { items = [] }

-- The kernel of a state.
unfoldable pub kernel_at : Automaton → ℕ → Kernel
kernel_at a s = slice_index_or a.kernels s no_kernel

-- The edges of a state, in the order of their symbols.
unfoldable pub edges_at : Automaton → ℕ → List Edge
edges_at a s = slice_index_or a.edges s []

-- The items of a state's kernel; the empty set if the automaton has no such state.
abbrev pub kernel_of : Automaton → ℕ → ItemSet
kernel_of a s = Holds (kernel_at a s)

-- The target of the edge of a state on a symbol, if there is one.
abbrev pub leads_to : Automaton → ℕ → Symbol → Option ℕ
leads_to a s X = find_edge (edges_at a s) X

-- The items of a state's closure (Knuth 1965).
abbrev pub closure_of : PlainGrammar → Automaton → ℕ → ItemSet
closure_of g a s = Close g (kernel_of a s)

-- The items of a state's closure with the dot moved past X: the goto on X (Knuth 1965).
abbrev pub move_of : PlainGrammar → Automaton → ℕ → Symbol → ItemSet
move_of g a s X = Moved g (closure_of g a s) X

-- The kernel of a start: its production with the dot before its symbol and the end of the stream as look (Knuth 1965).
abbrev pub start_kernel : ℕ → Kernel
start_kernel i = record { items = record { production = i; dot = 0; looks = End ∷ [] } ∷ [] }

-- The move of a state on X has at least one item.
pub record HasMove (g : PlainGrammar) (a : Automaton) (s : ℕ) (X : Symbol) : Type 0 where
  pub production : ℕ
  pub dot : ℕ
  pub look : Look
  pub moves : move_of g a s X production dot look

-- State u may be the target of an edge on X from state s: the core of u is the core of the move, and the lookahead sets
-- of u contain those of the move.
pub record IsTarget (g : PlainGrammar) (a : Automaton) (s : ℕ) (X : Symbol) (u : ℕ) : Type 0 where
  pub known : u < length a.kernels
  pub core : (p d : ℕ) → HasCoreItem (kernel_at a u) p d → (look : Look) × move_of g a s X p d look
  pub looks : (p d : ℕ) (look : Look) → move_of g a s X p d look → kernel_of a u p d look

-- The automaton belongs to the grammar: its first kernels are the start kernels, each state has exactly the edges of
-- its moves, and each edge leads to a state with the core and at least the looks of the move (Knuth 1965, Pager 1977).
pub record IsAutomaton (g : PlainGrammar) (a : Automaton) : Type 0 where
  pub enough_states : length g.starts ≤ length a.kernels
  pub few : length a.kernels < 2 ^ 32
  pub rows : length a.edges ≡ length a.kernels
  pub each : (s : ℕ) → s < length a.kernels → IsItemList g (kernel_at a s)
  pub starts : (i : ℕ) → i < length g.starts → kernel_at a i ≡ start_kernel i
  pub filled : (s : ℕ) → s < length a.kernels → 0 < length (kernel_at a s).items
  -- An item of a start production has the end of the stream as its only look.
  pub at_end : (s p d : ℕ) (look : Look) → kernel_of a s p d look → p < length g.starts → look ≡ End
  -- Only the start kernels have items with the dot before the first symbol.
  pub moved : (s p d : ℕ) → length g.starts ≤ s → HasCoreItem (kernel_at a s) p d → 0 < d
  -- A state has exactly one edge for each symbol that moves an item of its closure.
  pub order : (s : ℕ) → s < length a.kernels → IsRising IsEdgeBefore (edges_at a s)
  pub edge : (s : ℕ) (X : Symbol) → s < length a.kernels → HasMove g a s X → (u : ℕ) × (leads_to a s X ≡ Some u)
  pub target : (s : ℕ) (X : Symbol) (u : ℕ) → leads_to a s X ≡ Some u → HasMove g a s X × IsTarget g a s X u
