-- The names by which texts show the symbols of a grammar. A number that the grammar lacks has the empty name.
use Rattle.std.specs.Prelude.{ℕ, List, [], ◌-◌, length, nat_lt, if◌then◌else◌, slice_get}
use Rattle.std.specs.Option.{option_map, unwrap_or}
use Rattle.mh_grammar.specs.declared.types.Symbol.{Symbol}
use Rattle.mh_grammar.specs.declared.types.Symbol.TheVariants.{T, N}
use Rattle.mh_grammar.specs.declared.types.Grammar.{Grammar}
use Rattle.mh_grammar.specs.declared.types.TokenInfo.{TokenInfo}
use Rattle.mh_grammar.specs.declared.types.NontermInfo.{NontermInfo}
use Rattle.mh_grammar.specs.declared.types.Production.{Production}

unfoldable pub token_name : Grammar → ℕ → List ℕ
token_name g z = unwrap_or (option_map (λ (i : TokenInfo). i.name) (slice_get g.tokens z)) []

unfoldable pub nonterminal_name : Grammar → ℕ → List ℕ
nonterminal_name g n = unwrap_or (option_map (λ (i : NontermInfo). i.name) (slice_get g.nonterminals n)) []

abbrev pub symbol_name : Grammar → Symbol → List ℕ
symbol_name g (T z) = token_name g z
symbol_name g (N n) = nonterminal_name g n

-- The name of an ordinary production's left side; empty for a start production.
unfoldable pub left_side_name : Grammar → ℕ → List ℕ
left_side_name g p =
    if nat_lt p (length g.starts) then [] else unwrap_or (option_map (λ (q : Production). nonterminal_name g q.lhs) (slice_get g.productions (p - length g.starts))) []

-- The name of a start's symbol.
unfoldable pub start_name : Grammar → ℕ → List ℕ
start_name g i = unwrap_or (option_map (nonterminal_name g) (slice_get g.starts i)) []
