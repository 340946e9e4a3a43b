-- The grammar of expanded instances, in which inline producers are replaced by their alternatives (Menhir manual,
-- `%inline`; the order and the numbers are this project's own).
use Rattle.std.specs.Prelude.{◌≡◌, ◌++◌, ℕ, List, [], ◌∷◌, Option, Some, None, slice_get, map, filter}
use Rattle.std.specs.Option.{option_and_then}
use Rattle.mh_grammar.specs.declared.types.Level.{Level}
use Rattle.mh_grammar.specs.declared.types.TokenInfo.{TokenInfo}
use Rattle.mh_grammar.specs.declared.types.Production.{Production}
use Rattle.mh_grammar.specs.declared.types.Grammar.{Grammar}
use Rattle.mh_grammar.specs.declared.types.Symbol.{Symbol}
use Rattle.mh_grammar.specs.declared.types.Symbol.TheVariants.{T, N}
use Rattle.mh_rules.specs.declared.joined.Prec.{Prec}
use Rattle.mh_rules.specs.declared.joined.Prec.TheVariants.{Absent, Given}
use Rattle.mh_rules.specs.declared.instances.Part.{Part}
use Rattle.mh_rules.specs.declared.instances.Part.TheVariants.{Token, Instance as Applied}
use Rattle.mh_rules.specs.declared.instances.InstanceProduction.{InstanceProduction}
use Rattle.mh_rules.specs.declared.instances.Instance.{Instance}
use Rattle.mh_rules.specs.declared.instances.Expanded.{Expanded}
use Rattle.mh_inline_unfold.specs.declared.unfolding.Unfolding.{Unfolding}
use Rattle.mh_inline.specs.declared.origins.Origin.{Origin}
use Rattle.mh_inline.specs.Kept.{is_kept, nonterminal_of, nonterminal_number, AreOrigins}
use Rattle.mh_inline_unfold.specs.Instances.{IsAlternative}
use Rattle.mh_inline_unfold.specs.Unfoldings.{with_own_prec, Unfolds}

abbrev pub symbol_of : List Instance → Part → Symbol
symbol_of is (Token a) = T a
symbol_of is (Applied n) = N (nonterminal_number is n)

-- The last token of a list of producers that begins with X, where the second argument is that of the rest.
abbrev pub last_token_from : Part → Option ℕ → Option ℕ
last_token_from X (Some a) = Some a
last_token_from (Token a) None = Some a
last_token_from (Applied n) None = None

abbrev pub last_token : List Part → Option ℕ
last_token [] = None
last_token (X ∷ Xs) = last_token_from X (last_token Xs)

abbrev pub token_level : List TokenInfo → ℕ → Option Level
token_level tokens a = option_and_then (λ t. t.level) (slice_get tokens a)

-- The level of the %prec, which may have none, if a %prec is given; else the level of the last token.
abbrev pub level_of : List TokenInfo → Prec → List Part → Option Level
level_of tokens (Given level) rhs = level
level_of tokens Absent rhs = option_and_then (token_level tokens) (last_token rhs)

abbrev pub production_of : List TokenInfo → List Instance → ℕ → Unfolding → Production
production_of tokens is n u = record { lhs = nonterminal_number is n; rhs = map (symbol_of is) u.rhs; level = level_of tokens u.prec u.rhs }

-- The productions of these origins: for each origin in order those of its unfoldings, in order.
pub data AreProductions (tokens : List TokenInfo) (is : List Instance) : List Origin → List Production → Type 0 where
  none : AreProductions tokens is [] []
  more : {s : Origin} {origins : List Origin} {p : InstanceProduction} {us : List Unfolding} {ps qs : List Production} → IsAlternative is s.instance s.alternative p → Unfolds is p.rhs us → qs ≡ map (λ u. production_of tokens is s.instance (with_own_prec p.prec u)) us ++ ps → AreProductions tokens is origins ps → AreProductions tokens is (s ∷ origins) qs

-- The grammar g of the expanded instances e: the same tokens, the instances that are not inline as nonterminals, the
-- start symbols by their numbers, and the productions of all origins in order.
pub record IsInlined (e : Expanded) (g : Grammar) : Type 0 where
  pub tokens : g.tokens ≡ e.tokens
  pub nonterminals : g.nonterminals ≡ map nonterminal_of (filter is_kept e.instances)
  pub starts : g.starts ≡ map (nonterminal_number e.instances) e.starts
  pub origins : List Origin
  pub ordered : AreOrigins e.instances origins
  pub productions : AreProductions e.tokens e.instances origins g.productions
