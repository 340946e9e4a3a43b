-- The numbers of nonterminals as a list, and the origins found so far.
use Rattle.std.specs.Prelude.{◌≡◌, ◌<◌, ◌↔◌, ◌⊎◌, ℕ, List, length, slice_index}
use Rattle.std.specs.List.{Contains}
use Rattle.mh_grammar.specs.declared.types.Symbol.{Symbol}
use Rattle.mh_grammar.specs.declared.types.Symbol.TheVariants.{T, N}
use Rattle.mh_grammar.specs.Edges.{IsRising}
use Rattle.mh_rules.specs.declared.instances.Part.{Part}
use Rattle.mh_rules.specs.declared.instances.Part.TheVariants.{Token, Instance as Applied}
use Rattle.mh_rules.specs.declared.instances.Instance.{Instance}
use Rattle.mh_inline.specs.declared.origins.Origin.{Origin}
use Rattle.mh_inline.specs.Kept.{nonterminal_number, IsOrigin, IsOriginBefore}

-- The list has the number of each instance as a nonterminal.
pub record AreNumbers (is : List Instance) (numbers : List ℕ) : Type 0 where
  pub len : length numbers ≡ length is
  pub each : (n : ℕ) → n < length is → slice_index numbers n ≡ nonterminal_number is n

abbrev pub symbol_by : List ℕ → Part → Symbol
symbol_by numbers (Token a) = T a
symbol_by numbers (Applied n) = N (slice_index numbers n)

-- The origin belongs to an instance before the n-th, or to an alternative before the k-th of the n-th instance.
abbrev pub IsOriginBelow : ℕ → ℕ → Origin → Type 0
IsOriginBelow n k s = (s.instance < n) ⊎ ((s.instance ≡ n) × (s.alternative < k))

pub record AreOriginsBelow (is : List Instance) (n k : ℕ) (origins : List Origin) : Type 0 where
  pub rising : IsRising IsOriginBefore origins
  pub exact : (s : Origin) → Contains origins s ↔ IsOrigin is s × IsOriginBelow n k s
