-- The last uses of inline instances, as positions in the order in which their unfoldings are made.
use Rattle.std.specs.Prelude.{◌≡◌, ◌<◌, ◌≤◌, ℕ, false, List, Some, length, take, slice_get, slice_index_or}
use Rattle.std.specs.List.{Contains}
use Rattle.mh_rules.specs.declared.instances.Part.TheVariants.{Instance as Applied}
use Rattle.mh_rules.specs.declared.instances.Instance.{Instance}
use Rattle.mh_inline_unfold.specs.declared.unfolding.Unfolding.{Unfolding}
use Rattle.mh_inline_unfold.specs.Instances.{is_inlined}
use Rattle.mh_inline_unfold.specs.Unfoldings.{UnfoldsPart}
use Rattle.mh_inline_unfold.specs.code.Sizes.{AreSmall}
use Rattle.mh_inline_unfold.specs.code.UsedInstances.{UsesInline}

-- A noninline instance `user` uses the instance m.
pub record IsUsedByNoninline (is : List Instance) (m : ℕ) : Type 0 where
  pub user : ℕ
  pub kept : is_inlined is user ≡ false
  pub uses : UsesInline is user m

-- The instance n is not inline and uses the instance m.
abbrev pub NoninlineUses : List Instance → ℕ → ℕ → Type 0
NoninlineUses is n m = (is_inlined is n ≡ false) × UsesInline is n m

-- The last use of each instance that satisfies P is at least this position, and no last use has become smaller.
pub record RaisesLastUse (P : ℕ → Type 0) (place : ℕ) (old new : List ℕ) : Type 0 where
  pub len : length new ≡ length old
  pub later : (m : ℕ) → slice_index_or old m 0 ≤ slice_index_or new m 0
  pub reached : (m : ℕ) → P m → place ≤ slice_index_or new m 0

-- `last` has, for each instance, an upper bound of the positions in the order at which the instance is used. If a
-- noninline instance uses it, the bound is the length of the order or more, so its unfoldings are never dropped.
pub record AreLastUses (is : List Instance) (order last : List ℕ) : Type 0 where
  pub len : length last ≡ length is
  pub inline : (i n m : ℕ) → slice_get order i ≡ Some n → UsesInline is n m → i ≤ slice_index_or last m 0
  pub kept : (m : ℕ) → IsUsedByNoninline is m → length order ≤ slice_index_or last m 0

-- The unfoldings of the instances that are used after this position are unchanged.
pub record DropsUnneeded (last : List ℕ) (place : ℕ) (old new : List (List Unfolding)) : Type 0 where
  pub len : length new ≡ length old
  pub kept : (m : ℕ) → place < slice_index_or last m 0 → slice_get new m ≡ slice_get old m

-- The list has the unfoldings of the first instances of the order that are still needed, if they are within the limits.
pub record KnowsNeeded (is : List Instance) (order last : List ℕ) (place : ℕ) (known : List (List Unfolding)) : Type 0 where
  pub len : length known ≡ length is
  pub each : (n : ℕ) (us : List Unfolding) → place ≤ slice_index_or last n 0 → Contains (take place order) n → UnfoldsPart is (Applied n) us → AreSmall us → slice_get known n ≡ Some us

-- The list has the unfoldings of the instances of the order that noninline instances use, if they are within the
-- limits.
pub record KnowsUsed (is : List Instance) (order : List ℕ) (known : List (List Unfolding)) : Type 0 where
  pub len : length known ≡ length is
  pub each : (n : ℕ) (us : List Unfolding) → IsUsedByNoninline is n → Contains order n → UnfoldsPart is (Applied n) us → AreSmall us → slice_get known n ≡ Some us
