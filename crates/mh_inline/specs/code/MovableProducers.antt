-- Producers whose unfoldings no later instance needs.
use Rattle.std.specs.Prelude.{◌≡◌, ◌≤◌, ℕ, true, List, Option, Some, length, slice_get, slice_index_or}
use Rattle.mh_rules.specs.declared.instances.Part.{Part}
use Rattle.mh_rules.specs.declared.instances.Part.TheVariants.{Instance as Applied}
use Rattle.mh_rules.specs.declared.instances.InstanceProduction.{InstanceProduction}
use Rattle.mh_rules.specs.declared.instances.Instance.{Instance}
use Rattle.mh_inline.specs.declared.moving.LastUse.{LastUse}
use Rattle.mh_inline_unfold.specs.declared.unfolding.Unfolding.{Unfolding}
use Rattle.mh_inline_unfold.specs.Instances.{is_inlined, inline_number}

-- The producer X is inline, and is not used after this position of the order.
pub record IsCandidate (is : List Instance) (last : List ℕ) (place k j : ℕ) (X : Part) (q : LastUse) : Type 0 where
  pub alternative : q.alternative ≡ k
  pub producer : q.producer ≡ j
  pub number : inline_number is X ≡ Some q.number
  pub unneeded : slice_index_or last q.number 0 ≤ place

-- The producer q of an alternative is inline, and is not used after this position of the order.
pub record IsLastUseIn (is : List Instance) (last : List ℕ) (place k : ℕ) (Xs : List Part) (q : LastUse) : Type 0 where
  pub alternative : q.alternative ≡ k
  pub at : slice_get Xs q.producer ≡ Some (Applied q.number)
  pub inlined : is_inlined is q.number ≡ true
  pub unneeded : slice_index_or last q.number 0 ≤ place

-- The producer q of these alternatives is inline.
pub record IsInlineProducerOf (is : List Instance) (ps : List InstanceProduction) (q : LastUse) : Type 0 where
  pub production : InstanceProduction
  pub alternative : slice_get ps q.alternative ≡ Some production
  pub at : slice_get production.rhs q.producer ≡ Some (Applied q.number)
  pub inlined : is_inlined is q.number ≡ true

pub record IsLastUse (is : List Instance) (last : List ℕ) (place : ℕ) (ps : List InstanceProduction) (q : LastUse) : Type 0 where
  pub is_last : IsInlineProducerOf is ps q
  pub unneeded : slice_index_or last q.number 0 ≤ place

-- The unfoldings are unchanged, except those that have been moved.
pub record LacksOnlyMoved (q : Option LastUse) (old new : List (List Unfolding)) : Type 0 where
  pub len : length new ≡ length old
  pub kept : (m : ℕ) → ((u : LastUse) → q ≡ Some u → u.number ≡ m → ⊥) → slice_get new m ≡ slice_get old m
