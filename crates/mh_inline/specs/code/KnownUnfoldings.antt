-- Computed unfoldings, by the numbers of their instances.
use Rattle.std.specs.Prelude.{◌≡◌, ℕ, true, List, Option, Some, slice_get}
use Rattle.mh_rules.specs.declared.instances.Part.{Part}
use Rattle.mh_rules.specs.declared.instances.Part.TheVariants.{Instance as Applied}
use Rattle.mh_rules.specs.declared.instances.InstanceProduction.{InstanceProduction}
use Rattle.mh_rules.specs.declared.instances.Instance.{Instance}
use Rattle.mh_inline_unfold.specs.declared.unfolding.Unfolding.{Unfolding}
use Rattle.mh_inline_unfold.specs.declared.sizes.Size.{Size}
use Rattle.mh_inline_unfold.specs.Instances.{is_inlined, Inlines}
use Rattle.mh_inline_unfold.specs.Unfoldings.{choices, UnfoldsPart}
use Rattle.mh_inline_unfold.specs.code.Sizes.{AreSmall, IsPartSize}

pub record IsKnown (is : List Instance) (known : List (List Unfolding)) (n : ℕ) : Type 0 where
  pub unfoldings : List Unfolding
  pub unfolds : UnfoldsPart is (Applied n) unfoldings
  pub at : slice_get known n ≡ Some unfoldings

-- The unfoldings of each inline producer in this list have been computed.
pub record AreKnown (is : List Instance) (known : List (List Unfolding)) (Xs : List Part) : Type 0 where
  pub each : (j n : ℕ) → slice_get Xs j ≡ Some (Applied n) → is_inlined is n ≡ true → IsKnown is known n

-- The unfoldings of each inline producer in these alternatives have been computed.
pub record AreEachKnown (is : List Instance) (known : List (List Unfolding)) (ps : List InstanceProduction) : Type 0 where
  pub each : (k : ℕ) (p : InstanceProduction) → slice_get ps k ≡ Some p → AreKnown is known p.rhs

-- The new unfoldings are the concatenations of each old one with each of the producer X.
pub record ExtendsByProducer (is : List Instance) (X : Part) (old new : List Unfolding) : Type 0 where
  pub unfoldings : List Unfolding
  pub unfolds : UnfoldsPart is X unfoldings
  pub same : new ≡ choices old unfoldings

-- The inline instance n has a size, and the unfoldings of the inline instances that it uses have been computed, if they
-- are within the limits.
pub record IsNextToUnfold (is : List Instance) (sizes : List (Option Size)) (known : List (List Unfolding)) (n : ℕ) : Type 0 where
  pub inlined : is_inlined is n ≡ true
  pub size : Size
  pub sized : slice_get sizes n ≡ Some (Some size)
  pub size_is : IsPartSize is (Applied n) size
  pub some : (m : ℕ) → Inlines is n m → (us : List Unfolding) × UnfoldsPart is (Applied m) us
  pub inlined_known : (m : ℕ) (us : List Unfolding) → Inlines is n m → UnfoldsPart is (Applied m) us → AreSmall us → slice_get known m ≡ Some us
