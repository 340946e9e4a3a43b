-- Edges between states, their order, and the search for the edge on a symbol.
use Rattle.std.specs.Prelude.{◌<◌, ℕ, Bool, false, List, [], ◌∷◌, Option, Some, None, if◌then◌else◌, ◌==◌}
use Rattle.std.specs.List.{AllByRecursion}
use Rattle.mh_grammar.specs.declared.types.Symbol.{Symbol}
use Rattle.mh_grammar.specs.declared.types.Symbol.TheVariants.{T, N}
use Rattle.mh_grammar.specs.declared.types.Look.{Look}
use Rattle.mh_grammar.specs.declared.types.Look.TheVariants.{Token, End}
use Rattle.mh_grammar.specs.declared.edges.Edge.{Edge}

-- Each element is before all elements after it.
abbrev pub IsRising : {X : Type 0} → (X → X → Type 0) → List X → Type 0
IsRising R [] = Unit {0}
IsRising R (x ∷ xs) = AllByRecursion (R x) xs × IsRising R xs

-- Tokens by number, and the end of the stream after all tokens.
abbrev pub IsLookBefore : Look → Look → Type 0
IsLookBefore (Token a) (Token b) = a < b
IsLookBefore (Token a) End = Unit {0}
IsLookBefore End l = ⊥

-- Tokens by number, and after them nonterminals by number.
abbrev pub IsSymbolBefore : Symbol → Symbol → Type 0
IsSymbolBefore (T a) (T b) = a < b
IsSymbolBefore (T a) (N b) = Unit {0}
IsSymbolBefore (N a) (T b) = ⊥
IsSymbolBefore (N a) (N b) = a < b

abbrev pub IsEdgeBefore : Edge → Edge → Type 0
IsEdgeBefore e f = IsSymbolBefore e.symbol f.symbol

abbrev pub same_symbol : Symbol → Symbol → Bool
same_symbol (T a) (T b) = a == b
same_symbol (T a) (N b) = false
same_symbol (N a) (T b) = false
same_symbol (N a) (N b) = a == b

-- The target of the edge on a symbol, if there is one.
abbrev pub find_edge : List Edge → Symbol → Option ℕ
find_edge [] x = None
find_edge (e ∷ es) x = if same_symbol e.symbol x then Some e.target else find_edge es x
