-- Lemmas on inline producers and their instances.
use Rattle.std.proofs.Common.{◌≡◌, ℕ, inl, inr, ◌<◌, Bool, true, false, cond, List, Some, None, length, refl, sym, ap, arith}
use Rattle.std.specs.List.{slice_get}
use Rattle.std.proofs.lemmas.Option.{cond_some, none-some, slice_get_cases}
use Rattle.std.proofs.lemmas.Bool.{false≢true}
use Rattle.mh_rules.specs.declared.instances.Part.{Part}
use Rattle.mh_rules.specs.declared.instances.Part.TheVariants.{Token, Instance as Applied}
use Rattle.mh_rules.specs.declared.instances.Instance.{Instance}
use Rattle.mh_inline_unfold.specs.Instances.{is_inlined, inline_number, IsKept}

pub record IsInline (is : List Instance) (X : Part) (n : ℕ) : Type 0 where
  pub same : X ≡ Applied n
  pub inlined : is_inlined is n ≡ true

pub inline_some : (is : List Instance) (X : Part) (n : ℕ) → inline_number is X ≡ Some n → IsInline is X n
inline_some is (Token a) n e = absurd (none-some n e)
inline_some is (Applied m) n e = let h = cond_some (is_inlined is m) m n e in record { same = ap Applied h.1; inlined = rw h.1 at h.0 }

none_from_cond : (b : Bool) (n : ℕ) → cond b (Some n) None ≡ None → b ≡ false
none_from_cond true n e = absurd (none-some n (sym e))
none_from_cond false n e = refl

pub inline_none : (is : List Instance) (X : Part) → inline_number is X ≡ None → IsKept is X
inline_none is (Token a) e = tt
inline_none is (Applied m) e = none_from_cond (is_inlined is m) m e

-- The number n is that of an inline instance.
pub record IsInlineInstance (is : List Instance) (n : ℕ) : Type 0 where
  pub instance : Instance
  pub at : slice_get is n ≡ Some instance
  pub inlined : instance.inlined ≡ true
  pub within : n < length is

pub inline_instance : (is : List Instance) (n : ℕ) → is_inlined is n ≡ true → IsInlineInstance is n
inline_instance is n e = elim (slice_get_cases is n).1 [
  | inl found ↦ record {
    instance = found.0;
    at = found.2;
    inlined = rw found.2 at e;
    within = found.1;
  }
  | inr past ↦ absurd (false≢true (rw past.1 at e))
]

-- The number of an inline producer is an index of each list with one element for each instance.
pub inline_within : (is : List Instance) (X : Part) (n count : ℕ) → inline_number is X ≡ Some n → count ≡ length is → n < count
inline_within is X n count e len = omega (arith, len, (inline_instance is n (inline_some is X n e).inlined).within)
