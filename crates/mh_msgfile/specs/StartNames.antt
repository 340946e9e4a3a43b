-- The names of the starts of a grammar, and its only start. The rule is this project's own.
use Rattle.std.specs.Prelude.{ℕ, List, [], ◌∷◌, map, Option, None, Some, slice_index_or}
use Rattle.mh_grammar.specs.declared.types.Grammar.{Grammar}
use Rattle.mh_grammar.specs.Text.{Text}

-- The name of a start symbol, given by its nonterminal.
abbrev pub start_symbol_name : Grammar → ℕ → Text
start_symbol_name g start = slice_index_or (map (λ n. n.name) g.nonterminals) start []

abbrev pub start_names : Grammar → List Text
start_names g = map (start_symbol_name g) g.starts

-- The number of the only start, if there is exactly one.
abbrev pub only_one : List Text → Option ℕ
only_one (name ∷ []) = Some 0
only_one _ = None
