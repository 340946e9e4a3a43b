-- The instances that are not inline, which remain in the grammar, and their alternatives in order (the order is this
-- project's own).
use Rattle.std.specs.Prelude.{◌≡◌, ◌<◌, ◌↔◌, ◌⊎◌, ℕ, Bool, not, false, List, take, count_by}
use Rattle.std.specs.List.{Contains}
use Rattle.mh_grammar.specs.declared.types.NontermInfo.{NontermInfo}
use Rattle.mh_grammar.specs.Edges.{IsRising}
use Rattle.mh_rules.specs.declared.instances.InstanceProduction.{InstanceProduction}
use Rattle.mh_rules.specs.declared.instances.Instance.{Instance}
use Rattle.mh_inline.specs.declared.origins.Origin.{Origin}
use Rattle.mh_inline_unfold.specs.FileRanks.{rank_of}
use Rattle.mh_inline_unfold.specs.Instances.{is_inlined, IsAlternative}

-- The nonterminals are the instances that are not inline, in order.
abbrev pub is_kept : Instance → Bool
is_kept i = not i.inlined

abbrev pub nonterminal_of : Instance → NontermInfo
nonterminal_of i = record { name = i.name; on_error = i.on_error }

-- The number of instance n as a nonterminal: the number of instances before it that are not inline.
abbrev pub nonterminal_number : List Instance → ℕ → ℕ
nonterminal_number is n = count_by is_kept (take n is)

-- An alternative of an instance that is not inline, with the rank of its file and its position in the file.
pub record IsOrigin (is : List Instance) (s : Origin) : Type 0 where
  pub kept : is_inlined is s.instance ≡ false
  pub production : InstanceProduction
  pub alternative : IsAlternative is s.instance s.alternative production
  pub rank : s.rank ≡ rank_of production.file
  pub place : s.place ≡ production.place

-- The order of origins: by rank of the file, by position in the file, by instance, by position among the alternatives
-- of the instance.
abbrev pub IsOriginBefore : Origin → Origin → Type 0
IsOriginBefore s t = (s.rank < t.rank) ⊎ ((s.rank ≡ t.rank) × ((s.place < t.place) ⊎ ((s.place ≡ t.place) × ((s.instance < t.instance) ⊎ ((s.instance ≡ t.instance) × (s.alternative < t.alternative))))))

-- The list has exactly the alternatives of the instances that are not inline, in rising order.
pub record AreOrigins (is : List Instance) (origins : List Origin) : Type 0 where
  pub rising : IsRising IsOriginBefore origins
  pub exact : (s : Origin) → Contains origins s ↔ IsOrigin is s
