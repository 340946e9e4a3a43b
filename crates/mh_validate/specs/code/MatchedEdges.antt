-- The edges of a file compared with the moves of a closure.
use Rattle.std.specs.Prelude.{◌≡◌, ◌<◌, List, [], ◌∷◌, length, slice_index_or, Option, MatchOption}
use Rattle.std.specs.List.{AllZip}
use Rattle.mh_grammar.specs.declared.types.Grammar.{Grammar}
use Rattle.mh_grammar.specs.declared.edges.Edge.{Edge}
use Rattle.mh_grammar.specs.Names.{symbol_name}
use Rattle.mh_items_kernels.specs.KernelTypes.{Kernel}
use Rattle.mh_items_kernels.specs.Automaton.{no_kernel}
use Rattle.mh_items.specs.code.AllMoves.{Move}
use Rattle.mh_tabfile_form.specs.declared.types.RawEdge.{RawEdge}
use Rattle.mh_validate_valid.specs.code.KernelWithin.{IsKernelWithin}

-- The edge of the file matches the move: it has the symbol of the move, and its target is a state that holds the moved
-- items.
pub record MatchesMove (g : Grammar) (ks : List Kernel) (move : Move) (raw : RawEdge) : Type 0 where
  pub named : raw.symbol ≡ symbol_name g move.symbol
  pub known : raw.target < length ks
  pub within : IsKernelWithin move.kernel (slice_index_or ks raw.target no_kernel)

-- The edges with the symbols of the moves and the targets of the file's edges.
abbrev pub edges_on : List Move → List RawEdge → List Edge
edges_on [] raws = []
edges_on (m ∷ ms) [] = []
edges_on (m ∷ ms) (r ∷ rs) = record { symbol = m.symbol; target = r.target } ∷ edges_on ms rs

-- The edges, if each move matches its edge of the file; none, if some move does not.
abbrev pub IsRowOf : Grammar → List Kernel → List Move → List RawEdge → Option (List Edge) → Type 0
IsRowOf g ks moves raws row = MatchOption row (AllZip (MatchesMove g ks) moves raws → ⊥) (λ edges. AllZip (MatchesMove g ks) moves raws × (edges ≡ edges_on moves raws))
