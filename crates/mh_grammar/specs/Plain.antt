-- A grammar without its names: trees, FIRST, items, automata and tables are defined over it.
use Rattle.std.specs.Prelude.{◌≡◌, ◌<◌, ◌≤◌, ◌+◌, ◌-◌, ◌++◌, ◌^◌, ℕ, List, [], ◌∷◌, length, slice_get, slice_index, nat_lt, if◌then◌else◌}
use Rattle.std.specs.Option.{option_map, unwrap_or}
use Rattle.std.specs.List.{All}
use Rattle.mh_grammar.specs.declared.types.Symbol.{Symbol}
use Rattle.mh_grammar.specs.declared.types.Symbol.TheVariants.{T, N}
use Rattle.mh_grammar.specs.declared.types.Look.{Look}
use Rattle.mh_grammar.specs.declared.types.Look.TheVariants.{Token, End}
use Rattle.mh_grammar.specs.declared.types.Production.{Production}
use Rattle.mh_grammar.specs.declared.types.Grammar.{Grammar}
use Rattle.mh_grammar.specs.Limits.{max_numbered}
use Rattle.mh_grammar.specs.Derivations.{Derivation, Derivations}

-- The number of tokens, the number of nonterminals, the nonterminal of each start, and the ordinary productions.
pub record PlainGrammar : Type 0 where
  pub tokens : ℕ
  pub nonterminals : ℕ
  pub starts : List ℕ
  pub productions : List Production

abbrev pub plain_of : Grammar → PlainGrammar
plain_of g = record { tokens = length g.tokens; nonterminals = length g.nonterminals; starts = g.starts; productions = g.productions }

-- The number of productions. The start productions come first.
abbrev pub production_count : PlainGrammar → ℕ
production_count g = length g.starts + length g.productions

-- The right side of a production; that of a start production is its start symbol.
unfoldable pub rhs_of : PlainGrammar → ℕ → List Symbol
rhs_of g p = if nat_lt p (length g.starts) then N (slice_index g.starts p) ∷ [] else unwrap_or (option_map (λ q. q.rhs) (slice_get g.productions (p - length g.starts))) []

-- The left side of an ordinary production.
unfoldable pub lhs_of : PlainGrammar → ℕ → ℕ
lhs_of g p = unwrap_or (option_map (λ q. q.lhs) (slice_get g.productions (p - length g.starts))) 0

-- Production p is an ordinary production for nonterminal n.
pub record IsProductionFor (g : PlainGrammar) (n p : ℕ) : Type 0 where
  pub ordinary : length g.starts ≤ p
  pub known : p < production_count g
  pub lhs : lhs_of g p ≡ n

abbrev pub IsToken : Symbol → ℕ → Type 0
IsToken (T a) b = a ≡ b
IsToken (N n) b = ⊥

abbrev pub Produces : PlainGrammar → Symbol → List Symbol → Type 0
Produces g (T a) rhs = ⊥
Produces g (N n) rhs = (p : ℕ) × IsProductionFor g n p × (rhs_of g p ≡ rhs)

-- The symbol derives the word.
abbrev pub Derives : PlainGrammar → Symbol → List ℕ → Type 0
Derives g X w = Derivation IsToken (Produces g) X w

-- The symbols, in sequence, derive the word.
abbrev pub DerivesAll : PlainGrammar → List Symbol → List ℕ → Type 0
DerivesAll g Xs w = Derivations IsToken (Produces g) Xs w

abbrev pub IsNullable : PlainGrammar → ℕ → Type 0
IsNullable g n = Derives g (N n) []

abbrev pub IsProductive : PlainGrammar → ℕ → Type 0
IsProductive g n = (w : List ℕ) × Derives g (N n) w

-- The symbol of a start.
abbrev pub start_symbol : PlainGrammar → ℕ → Symbol
start_symbol g start = N (slice_index g.starts start)

abbrev pub IsSentence : PlainGrammar → ℕ → List ℕ → Type 0
IsSentence g start w = Derives g (start_symbol g start) w

-- Some sentence begins with these tokens.
abbrev pub BeginsSentence : PlainGrammar → ℕ → List ℕ → Type 0
BeginsSentence g start w = (v : List ℕ) × IsSentence g start (w ++ v)

-- The numbers of symbols are below the numbers of tokens and nonterminals.
abbrev pub IsSymbolBelow : ℕ → ℕ → Symbol → Type 0
IsSymbolBelow tokens nonterminals (T a) = a < tokens
IsSymbolBelow tokens nonterminals (N n) = n < nonterminals

abbrev pub IsLookBelow : ℕ → Look → Type 0
IsLookBelow tokens (Token a) = a < tokens
IsLookBelow tokens End = Unit {0}

pub record IsProductionBelow (tokens nonterminals : ℕ) (p : Production) : Type 0 where
  pub lhs : p.lhs < nonterminals
  pub rhs : All (IsSymbolBelow tokens nonterminals) p.rhs

-- Left sides, symbols and starts are in range, and every count is within its limit.
pub record IsInRange (g : PlainGrammar) : Type 0 where
  pub productions : All (IsProductionBelow g.tokens g.nonterminals) g.productions
  pub starts : All (λ s. s < g.nonterminals) g.starts
  pub tokens : g.tokens ≤ max_numbered
  pub nonterminals : g.nonterminals ≤ max_numbered
  pub few_starts : length g.starts ≤ max_numbered
  pub short : All (λ (p : Production). length p.rhs < 2 ^ 32) g.productions
  pub few : production_count g < 2 ^ 32
