-- The inline instances that occur among producers, in alternatives and in an instance; and insertion of these into a
-- list.
use Rattle.std.specs.Prelude.{◌≡◌, ◌⊎◌, ℕ, true, List, Some, slice_get}
use Rattle.std.specs.List.{Contains}
use Rattle.mh_rules.specs.declared.instances.Part.{Part}
use Rattle.mh_rules.specs.declared.instances.Part.TheVariants.{Instance as Applied}
use Rattle.mh_rules.specs.declared.instances.InstanceProduction.{InstanceProduction}
use Rattle.mh_rules.specs.declared.instances.Instance.{Instance}
use Rattle.mh_inline_unfold.specs.Instances.{is_inlined, IsAlternative}

-- The inline instance m occurs among these producers; in these alternatives; in the alternatives of the instance n.
pub record OccursInProducers (is : List Instance) (Xs : List Part) (m : ℕ) : Type 0 where
  pub producer : ℕ
  pub at : slice_get Xs producer ≡ Some (Applied m)
  pub used : is_inlined is m ≡ true

pub record OccursInAlternatives (is : List Instance) (ps : List InstanceProduction) (m : ℕ) : Type 0 where
  pub place : ℕ
  pub production : InstanceProduction
  pub at : slice_get ps place ≡ Some production
  pub among : OccursInProducers is production.rhs m

pub record UsesInline (is : List Instance) (n m : ℕ) : Type 0 where
  pub place : ℕ
  pub production : InstanceProduction
  pub alternative : IsAlternative is n place production
  pub among : OccursInProducers is production.rhs m

-- The new list has the elements of the old list and those that satisfy P, perhaps repeatedly, and no others.
pub record AddsToList (P : ℕ → Type 0) (old new : List ℕ) : Type 0 where
  pub kept : (m : ℕ) → Contains old m → Contains new m
  pub origin : (m : ℕ) → Contains new m → Contains old m ⊎ P m
  pub added : (m : ℕ) → P m → Contains new m
