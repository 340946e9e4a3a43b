-- Definitions for collections of item sets, however they are made (Knuth 1965, Pager 1977): paths, start kernels, moves
-- and edges.
use Rattle.std.specs.Prelude.{◌≡◌, ◌<◌, ℕ, List, [], ◌∷◌, Some, length, map, slice_get}
use Rattle.mh_grammar.specs.declared.types.Symbol.{Symbol}
use Rattle.mh_grammar.specs.declared.types.Look.{Look}
use Rattle.mh_grammar.specs.declared.edges.Edge.{Edge}
use Rattle.mh_grammar.specs.Plain.{PlainGrammar}
use Rattle.mh_grammar.specs.ItemSets.{ItemSet, Close, Moved}
use Rattle.mh_items_kernels.specs.KernelTypes.{Kernel, Automaton}
use Rattle.mh_items_kernels.specs.Automaton.{start_kernel, leads_to}

-- The item set is not empty.
pub record HasItem (I : ItemSet) : Type 0 where
  pub production : ℕ
  pub dot : ℕ
  pub look : Look
  pub holds : I production dot look

-- The item set that a path of symbols leads to from an item set, by closures and moves (Knuth 1965); the newest symbol
-- is first.
abbrev pub After : PlainGrammar → ItemSet → List Symbol → ItemSet
After g I [] = I
After g I (X ∷ path) = Moved g (Close g (After g I path)) X

-- The list holds the kernels of the first `count` starts, in order.
pub record AreStarts (count : ℕ) (kernels : List Kernel) : Type 0 where
  pub len : length kernels ≡ count
  pub each : (i : ℕ) → i < count → slice_get kernels i ≡ Some (start_kernel i)

-- The targets of a list of edges.
abbrev pub targets_of : List Edge → List ℕ
targets_of row = map (λ e. e.target) row

-- The symbols of a list of edges.
abbrev pub edge_symbols : List Edge → List Symbol
edge_symbols row = map (λ (e : Edge). e.symbol) row

-- The edges of the automaton on a path of symbols lead from state i to state s; the newest symbol is first.
abbrev pub PathLeadsTo : Automaton → ℕ → List Symbol → ℕ → Type 0
PathLeadsTo a i [] s = i ≡ s
PathLeadsTo a i (X ∷ path) s = (u : ℕ) × PathLeadsTo a i path u × (leads_to a u X ≡ Some s)
