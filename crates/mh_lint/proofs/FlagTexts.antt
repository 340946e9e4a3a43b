-- A flag that is set when its text is given.
use Rattle.std.proofs.Common.{◌≡◌, ◌⊎◌, ℕ, ◌<◌, Bool, true, false, List, Option, None, Some, length, get_or, set, refl, sym, ap, subst, ◌∙◌, inl, inr}
use Rattle.std.specs.Prelude.{Err, Ok, OnOk, Result}
use Rattle.std.specs.List.{slice_get}
use Rattle.std.proofs.lemmas.Bool.{cases_Bool}
use Rattle.std.proofs.lemmas.Option.{same_Some, slice_get-get_or, slice_get_within}
use Rattle.mh_grammar.specs.Text.{Text}
use Rattle.mh_lint_states.specs.code.Marks.{Marks}
use Rattle.mh_lint_states.proofs.MarkedFlags.{marks_none, marks_one}
use Rattle.mh_lint.specs.code.MentionUses.{text_unless_set}

-- The flag with this number, if there is one.
abbrev pub IsFlag : List Bool → Option ℕ → ℕ → Type 0
IsFlag flags number n = (number ≡ Some n) × (n < length flags)

pub no_number : (flags : List Bool) → Marks (IsFlag flags None) flags flags
no_number flags = marks_none (IsFlag flags None) flags (λ n h. (let bad : None ≡ Some n = h.0 in cc))

-- There is no flag with the number, or the flag is set.
pub not_unset : (flags : List Bool) (k : ℕ) → (slice_get flags k ≡ Some false → ⊥) → Marks (IsFlag flags (Some k)) flags flags
not_unset flags k set_or_past = record { len = refl; each = λ i. (λ e. inl e, back i) }
  where
    back : (i : ℕ) → (get_or flags i false ≡ true) ⊎ IsFlag flags (Some k) i → get_or flags i false ≡ true
    back i (inl e) = e
    back i (inr h) = elim (cases_Bool (get_or flags i false)) [
      | inl is ↦ is
      | inr unset ↦ absurd (set_or_past (subst (λ n. slice_get flags n ≡ Some false) (sym (same_Some k i h.0)) (slice_get-get_or flags i false h.1 ∙ (λ j. Some (unset j)))))
    ]

-- The flag is set now.
pub unset_flag : (flags : List Bool) (k : ℕ) → slice_get flags k ≡ Some false → Marks (IsFlag flags (Some k)) flags (set flags k true)
unset_flag flags k at = (let l = slice_get_within flags k false at in marks_one (IsFlag flags (Some k)) flags k l (refl, l) (λ i h. sym (same_Some k i h.0)))

-- ---- The text.

pub no_text : (o : Option Bool) (text : Text) → (o ≡ Some false → ⊥) → None ≡ text_unless_set o text
no_text None text h = refl
no_text (Some true) text h = refl
no_text (Some false) text h = absurd (h refl)

pub unset_text : (o : Option Bool) (text : Text) → o ≡ Some false → Some text ≡ text_unless_set o text
unset_text o text e = ap (λ p. text_unless_set p text) (sym e)

-- ---- What does not depend on the value.

pub on_ok_always : {T E Q : Type 0} (r : Result T E) → Q → OnOk r Q
on_ok_always (Ok x) q = q
on_ok_always (Err e) q = tt
