-- The sizes of lists of unfoldings: the number of unfoldings and the length of the longest.
use Rattle.std.specs.Prelude.{◌≡◌, ◌+◌, ◌<◌, ◌≤◌, ℕ, true, List, [], ◌∷◌, Option, Some, None, length, min, max, take, slice_get, count_by}
use Rattle.std.specs.Option.{is_none}
use Rattle.std.specs.List.{Contains}
use Rattle.mh_rules.specs.declared.instances.Part.{Part}
use Rattle.mh_rules.specs.declared.instances.Part.TheVariants.{Instance as Applied}
use Rattle.mh_rules.specs.declared.instances.InstanceProduction.{InstanceProduction}
use Rattle.mh_rules.specs.declared.instances.Instance.{Instance}
use Rattle.mh_inline_unfold.specs.declared.unfolding.Unfolding.{Unfolding}
use Rattle.mh_inline_unfold.specs.Limits.{max_productions, max_symbols}
use Rattle.mh_inline_unfold.specs.declared.sizes.Size.{Size}
use Rattle.mh_inline_unfold.specs.declared.sizes.SizeTable.{SizeTable}
use Rattle.mh_inline_unfold.specs.Instances.{is_inlined, Inlines}
use Rattle.mh_inline_unfold.specs.Unfoldings.{UnfoldsPart, Unfolds, UnfoldsEach}

abbrev pub longest : List Unfolding → ℕ
longest [] = 0
longest (u ∷ us) = max (length u.rhs) (longest us)

-- Both numbers are exact, but capped at one more than their limits.
pub record IsSize (us : List Unfolding) (s : Size) : Type 0 where
  pub count : s.count ≡ min (length us) (max_productions + 1)
  pub longest : s.longest ≡ min (longest us) (max_symbols + 1)

-- The unfoldings are within the limits.
pub record AreSmall (us : List Unfolding) : Type 0 where
  pub few : length us ≤ max_productions
  pub short : longest us ≤ max_symbols

abbrev pub IsSmallSize : Option Size → Type 0
IsSmallSize None = ⊥
IsSmallSize (Some s) = (s.count ≤ max_productions) × (s.longest ≤ max_symbols)

-- The size of the unfoldings of a producer, of a list of producers, and of a list of alternatives.
pub record IsPartSize (is : List Instance) (X : Part) (s : Size) : Type 0 where
  pub unfoldings : List Unfolding
  pub unfolds : UnfoldsPart is X unfoldings
  pub some : 0 < length unfoldings
  pub size : IsSize unfoldings s

pub record IsSideSize (is : List Instance) (Xs : List Part) (s : Size) : Type 0 where
  pub unfoldings : List Unfolding
  pub unfolds : Unfolds is Xs unfoldings
  pub some : 0 < length unfoldings
  pub size : IsSize unfoldings s

pub record IsEachSize (is : List Instance) (ps : List InstanceProduction) (s : Size) : Type 0 where
  pub unfoldings : List Unfolding
  pub unfolds : UnfoldsEach is ps unfoldings
  pub some : length ps ≤ length unfoldings
  pub size : IsSize unfoldings s

-- Each inline instance among these producers, or in these alternatives, has a size.
pub record AreSized (is : List Instance) (sizes : List (Option Size)) (Xs : List Part) : Type 0 where
  pub each : (j n : ℕ) → slice_get Xs j ≡ Some (Applied n) → is_inlined is n ≡ true → (s : Size) × (slice_get sizes n ≡ Some (Some s))

pub record AreEachSized (is : List Instance) (sizes : List (Option Size)) (ps : List InstanceProduction) : Type 0 where
  pub each : (k : ℕ) (p : InstanceProduction) → slice_get ps k ≡ Some p → AreSized is sizes p.rhs

-- An inline instance among these producers, or in these alternatives, has no size.
pub record HasUnsizedProducer (is : List Instance) (sizes : List (Option Size)) (Xs : List Part) : Type 0 where
  pub place : ℕ
  pub number : ℕ
  pub at : slice_get Xs place ≡ Some (Applied number)
  pub inlined : is_inlined is number ≡ true
  pub unsized : slice_get sizes number ≡ Some None

pub record HasUnsizedAlternative (is : List Instance) (sizes : List (Option Size)) (ps : List InstanceProduction) : Type 0 where
  pub place : ℕ
  pub production : InstanceProduction
  pub at : slice_get ps place ≡ Some production
  pub blocked : HasUnsizedProducer is sizes production.rhs

-- The sizes that have been computed are right.
pub record AreSizes (is : List Instance) (sizes : List (Option Size)) : Type 0 where
  pub len : length sizes ≡ length is
  pub sound : (n : ℕ) (s : Size) → slice_get sizes n ≡ Some (Some s) → IsPartSize is (Applied n) s

-- The inline instance n has a size, and the inline instances that it uses occur earlier in the list.
pub record IsOrdered (is : List Instance) (sizes : List (Option Size)) (before : List ℕ) (n : ℕ) : Type 0 where
  pub inlined : is_inlined is n ≡ true
  pub size : Size
  pub sized : slice_get sizes n ≡ Some (Some size)
  pub inlined_before : (m : ℕ) → Inlines is n m → Contains before m

pub record AreOrdered (is : List Instance) (sizes : List (Option Size)) (order : List ℕ) : Type 0 where
  pub are_sizes : AreSizes is sizes
  pub listed : (n : ℕ) (z : Size) → slice_get sizes n ≡ Some (Some z) → Contains order n
  pub ordered : (i n : ℕ) → slice_get order i ≡ Some n → IsOrdered is sizes (take i order) n

abbrev pub IsSizeTable : List Instance → SizeTable → Type 0
IsSizeTable is s = AreOrdered is s.sizes.items s.order.items

abbrev pub unsized_count : SizeTable → ℕ
unsized_count s = count_by is_none s.sizes.items

-- If an inline instance has no size, then it uses an inline instance without a size.
pub record IsFixedAt (is : List Instance) (sizes : List (Option Size)) (n : ℕ) : Type 0 where
  pub settled : is_inlined is n ≡ true → slice_get sizes n ≡ Some None → (m : ℕ) × Inlines is n m × (slice_get sizes m ≡ Some None)

abbrev pub IsSizeFixedPoint : List Instance → List (Option Size) → Type 0
IsSizeFixedPoint is sizes = (n : ℕ) → IsFixedAt is sizes n

abbrev pub AreAllSized : List Instance → List (Option Size) → Type 0
AreAllSized is sizes = (n : ℕ) → is_inlined is n ≡ true → (s : Size) × (slice_get sizes n ≡ Some (Some s))
