-- Instances by number, their alternatives, and the inline ones among them (Menhir manual, `%inline`).
use Rattle.std.specs.Prelude.{◌≡◌, ℕ, Bool, true, false, List, Option, Some, None, slice_get, unwrap_or, if◌then◌else◌}
use Rattle.std.specs.Option.{option_map}
use Rattle.mh_rules.specs.declared.instances.Part.{Part}
use Rattle.mh_rules.specs.declared.instances.Part.TheVariants.{Token, Instance as Applied}
use Rattle.mh_rules.specs.declared.instances.InstanceProduction.{InstanceProduction}
use Rattle.mh_rules.specs.declared.instances.Instance.{Instance}

abbrev pub is_inlined : List Instance → ℕ → Bool
is_inlined is n = unwrap_or (option_map (λ i. i.inlined) (slice_get is n)) false

-- The alternative with position k of the instance n.
pub record IsAlternative (is : List Instance) (n k : ℕ) (p : InstanceProduction) : Type 0 where
  pub instance : Instance
  pub at : slice_get is n ≡ Some instance
  pub alternative : slice_get instance.productions k ≡ Some p

-- The producer is not replaced by inlining: a token, or an instance that is not inline.
abbrev pub IsKept : List Instance → Part → Type 0
IsKept is (Token a) = Unit {0}
IsKept is (Applied n) = is_inlined is n ≡ false

-- The number of the instance of an inline producer.
abbrev pub inline_number : List Instance → Part → Option ℕ
inline_number is (Token a) = None
inline_number is (Applied n) = if is_inlined is n then Some n else None

-- The inline instance n uses the inline instance m: an alternative of n has m as a producer.
pub record Inlines (is : List Instance) (n m : ℕ) : Type 0 where
  pub user_inlined : is_inlined is n ≡ true
  pub place : ℕ
  pub production : InstanceProduction
  pub alternative : IsAlternative is n place production
  pub producer : ℕ
  pub at : slice_get production.rhs producer ≡ Some (Applied m)
  pub used_inlined : is_inlined is m ≡ true

-- The inline instance n uses the instance m, directly or through other inline instances.
pub data Reaches (is : List Instance) (n : ℕ) : ℕ → Type 0 where
  one : {m : ℕ} → Inlines is n m → Reaches is n m
  more : {m k : ℕ} → Reaches is n m → Inlines is m k → Reaches is n k
