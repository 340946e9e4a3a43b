-- Ranks of instances.
use Rattle.std.specs.Prelude.{◌<◌, ◌≤◌, ℕ, List, slice_index_or}
use Rattle.mh_rules.specs.declared.instances.Instance.{Instance}
use Rattle.mh_inline_unfold.specs.Instances.{Inlines}
use Rattle.mh_inline_unfold.specs.code.UsedInstances.{UsesInline}

-- The inline instances that an inline instance uses have no higher ranks.
pub record IsRanked (is : List Instance) (ranks : List ℕ) (n : ℕ) : Type 0 where
  pub each : (m : ℕ) → Inlines is n m → slice_index_or ranks m 0 ≤ slice_index_or ranks n 0

abbrev pub AreRanked : List Instance → List ℕ → Type 0
AreRanked is ranks = (n : ℕ) → IsRanked is ranks n

-- The inline instances that an instance uses have ranks lower than the given one.
pub record IsRankedAbove (is : List Instance) (ranks : List ℕ) (n rank : ℕ) : Type 0 where
  pub each : (m : ℕ) → UsesInline is n m → slice_index_or ranks m 0 < rank
