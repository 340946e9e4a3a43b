-- The values from which productions are made: numbers of nonterminals, origins, and sizes.
use Rattle.std.specs.Prelude.{◌≡◌, ◌+◌, ◌≤◌, ℕ, List, [], ◌∷◌, ◌++◌, Option, Some, length, map, min, max}
use Rattle.std.specs.List.{All}
use Rattle.mh_grammar.specs.declared.types.TokenInfo.{TokenInfo}
use Rattle.mh_grammar.specs.declared.types.Production.{Production}
use Rattle.mh_rules.specs.declared.instances.Part.{Part}
use Rattle.mh_rules.specs.declared.instances.Part.TheVariants.{Token, Instance as Applied}
use Rattle.mh_rules.specs.declared.instances.Instance.{Instance}
use Rattle.mh_rules.specs.declared.instances.InstanceProduction.{InstanceProduction}
use Rattle.mh_inline_unfold.specs.declared.unfolding.Unfolding.{Unfolding}
use Rattle.mh_inline.specs.declared.origins.Origin.{Origin}
use Rattle.mh_inline_unfold.specs.Limits.{max_productions, max_symbols}
use Rattle.mh_inline_unfold.specs.declared.sizes.Size.{Size}
use Rattle.mh_inline_unfold.specs.Instances.{IsAlternative}
use Rattle.mh_rules.specs.Ready.{IsPartBelow}
use Rattle.mh_inline_unfold.specs.Unfoldings.{with_own_prec, Unfolds}
use Rattle.mh_inline.specs.code.KnownUnfoldings.{AreKnown}
use Rattle.mh_inline.specs.Inlined.{level_of, production_of, AreProductions}
use Rattle.mh_inline.specs.code.NumbersAndOrigins.{symbol_by}

abbrev pub production_by : List TokenInfo → List ℕ → ℕ → Unfolding → Production
production_by tokens numbers lhs u = record { lhs = lhs; rhs = map (symbol_by numbers) u.rhs; level = level_of tokens u.prec u.rhs }

abbrev pub IsUnfoldingBelow : ℕ → ℕ → Unfolding → Type 0
IsUnfoldingBelow tokens instances u = All (IsPartBelow tokens instances) u.rhs

-- The length of the longest right side.
abbrev pub longest_side : List Production → ℕ
longest_side [] = 0
longest_side (p ∷ ps) = max (length p.rhs) (longest_side ps)

-- The size of the productions of these origins; both numbers are capped at one more than their limits.
pub record IsOriginsSize (tokens : List TokenInfo) (is : List Instance) (origins : List Origin) (z : Size) : Type 0 where
  pub productions : List Production
  pub are_productions : AreProductions tokens is origins productions
  pub count : z.count ≡ min (length productions) (max_productions + 1)
  pub longest : z.longest ≡ min (longest_side productions) (max_symbols + 1)

pub record AreOriginsSmall (tokens : List TokenInfo) (is : List Instance) (origins : List Origin) : Type 0 where
  pub productions : List Production
  pub are_productions : AreProductions tokens is origins productions
  pub few : length productions ≤ max_productions
  pub short : longest_side productions ≤ max_symbols

-- The productions of an origin have been appended.
pub record AddsOrigin (tokens : List TokenInfo) (is : List Instance) (s : Origin) (old new : List Production) : Type 0 where
  pub production : InstanceProduction
  pub alternative : IsAlternative is s.instance s.alternative production
  pub unfoldings : List Unfolding
  pub unfolds : Unfolds is production.rhs unfoldings
  pub added : new ≡ old ++ map (λ u. production_of tokens is s.instance (with_own_prec production.prec u)) unfoldings

-- The token, or the earlier token if the producer is none.
abbrev pub token_else : Part → Option ℕ → Option ℕ
token_else (Token a) last = Some a
token_else (Applied n) last = last

-- The unfoldings of the inline producers in the alternative of an origin have been computed.
pub record IsOriginKnown (is : List Instance) (known : List (List Unfolding)) (s : Origin) : Type 0 where
  pub each : (p : InstanceProduction) → IsAlternative is s.instance s.alternative p → AreKnown is known p.rhs
