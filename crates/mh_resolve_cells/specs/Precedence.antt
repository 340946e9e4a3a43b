-- The comparison of a reduction with a shift by precedence levels: yacc's rule (Johnson 1975; Aho, Lam, Sethi and
-- Ullman), with the additions of the Menhir manual for levels of several files and for `%on_error_reduce`.
use Rattle.std.specs.Prelude.{◌-◌, ◌==◌, ℕ, nat_lt, length, Option, Some, None, slice_get, if◌then◌else◌}
use Rattle.std.specs.Option.{option_and_then}
use Rattle.mh_grammar.specs.declared.types.Level.{Level}
use Rattle.mh_grammar.specs.declared.types.Grammar.{Grammar}
use Rattle.mh_grammar.specs.declared.types.Look.{Look}
use Rattle.mh_grammar.specs.declared.types.Look.TheVariants.{Token, End}
use Rattle.mh_grammar.specs.declared.types.Assoc.{Assoc}
use Rattle.mh_grammar.specs.declared.types.Assoc.TheVariants.{Left, Right, Nonassoc}
use Rattle.mh_resolve_cells.specs.declared.levels.Comparison.{Comparison}
use Rattle.mh_resolve_cells.specs.declared.levels.Comparison.TheVariants.{Reduces, Shifts, Neither, Unknown}

-- The comparison of equal levels, by associativity.
abbrev pub by_associativity : Assoc → Comparison
by_associativity Left = Reduces
by_associativity Right = Shifts
by_associativity Nonassoc = Neither

-- Two levels of one file are comparable: the higher one wins, and associativity decides between equal ones.
abbrev pub by_levels : Level → Level → Comparison
by_levels p t = if p.file == t.file then (if nat_lt t.rank p.rank then Reduces else if nat_lt p.rank t.rank then Shifts else by_associativity t.assoc) else Unknown

-- The comparison of reducing a production of level p with shifting a token of level t.
abbrev pub comparison : Option Level → Option Level → Comparison
comparison None t = Unknown
comparison (Some p) None = Unknown
comparison (Some p) (Some t) = by_levels p t

-- The level of a production; a start production has none.
unfoldable pub production_level : Grammar → ℕ → Option Level
production_level g p = if nat_lt p (length g.starts) then None else option_and_then (λ q. q.level) (slice_get g.productions (p - length g.starts))

-- The level of a look: that of its token; the end of the stream has none.
abbrev pub look_level : Grammar → Look → Option Level
look_level g (Token z) = option_and_then (λ t. t.level) (slice_get g.tokens z)
look_level g End = None

-- The comparison of reducing p with shifting the look.
abbrev pub comparison_on : Grammar → Look → ℕ → Comparison
comparison_on g look p = comparison (production_level g p) (look_level g look)

-- The rank of a production for `%on_error_reduce`: the position of the first declaration that names its left side.
unfoldable pub error_rank : Grammar → ℕ → Option ℕ
error_rank g p = if nat_lt p (length g.starts) then None else option_and_then (λ q. option_and_then (λ n. n.on_error) (slice_get g.nonterminals q.lhs)) (slice_get g.productions (p - length g.starts))
