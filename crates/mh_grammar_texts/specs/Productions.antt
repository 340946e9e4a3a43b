-- The texts of symbols and productions.
use Rattle.std.specs.Prelude.{ℕ, List, [], ◌∷◌, ◌++◌, length, nat_lt, if◌then◌else◌, take, drop, Option, None, Some, codes}
use Rattle.mh_grammar.specs.declared.types.Symbol.{Symbol}
use Rattle.mh_grammar.specs.declared.types.Grammar.{Grammar}
use Rattle.mh_grammar.specs.Plain.{plain_of, rhs_of}
use Rattle.mh_grammar.specs.Names.{symbol_name, left_side_name, start_name}
use Rattle.mh_grammar.specs.Text.{Text}

-- The names of symbols, each after one space.
abbrev pub spaced_symbols : Grammar → List Symbol → Text
spaced_symbols g [] = []
spaced_symbols g (X ∷ symbols) = 32 ∷ symbol_name g X ++ spaced_symbols g symbols

-- The names of symbols, each after one space, and a dot at the given position, if one is given.
abbrev pub symbols_text : Grammar → Option ℕ → List Symbol → Text
symbols_text g None symbols = spaced_symbols g symbols
symbols_text g (Some dot) symbols = spaced_symbols g (take dot symbols) ++ (codes " ." ++ spaced_symbols g (drop dot symbols))

-- The left side of a production; that of a start production is the start's name with a quote.
abbrev pub left_side_text : Grammar → ℕ → Text
left_side_text g p = if nat_lt p (length g.starts) then start_name g p ++ codes "'" else left_side_name g p

-- The text of a production: its left side, an arrow, and its right side.
abbrev pub production_text : Grammar → ℕ → Text
production_text g p = left_side_text g p ++ codes " ->" ++ spaced_symbols g (rhs_of (plain_of g) p)
