-- A line without the name of the program and without the line end, by the results of the calls that take these off.
use Rattle.std.proofs.Common.{◌≡◌, ◌≢◌, ◌∙◌, ◌++◌, Option, None, Some, refl, sym, ap, append_assoc, codes}
use Rattle.std.specs.Prelude.{MatchOption}
use Rattle.std.proofs.lemmas.List.{append_cancel_left}
use Rattle.mh_grammar.specs.Text.{Text}
use Rattle.mh_top_check.specs.Examination.{IsBareLine, of_program, other}

abbrev name : Text
name = codes "menhir: "

abbrev line_end : Text
line_end = codes "\n"

-- Nothing was taken off.
pub not_taken : {A : Type 0} (P : Type 0) (Q : A → Type 0) (r : Option A) → MatchOption r P Q → ((x : A) → r ≡ Some x → ⊥) → P
not_taken P Q None cases never = cases
not_taken P Q (Some x) cases never = absurd (never x refl)

pub bare_of_program : (whole rest bare : Text) → whole ≡ name ++ rest → rest ≡ bare ++ line_end → IsBareLine whole bare
bare_of_program whole rest bare begins ends = of_program bare (begins ∙ ap (λ (r : Text). name ++ r) ends ∙ sym (append_assoc name bare line_end))

pub without_name : (whole : Text) → ((rest : Text) → whole ≢ name ++ rest) → IsBareLine whole whole
without_name whole none = other (λ bare is. none (bare ++ line_end) (is ∙ append_assoc name bare line_end))

pub without_end : (whole rest : Text) → whole ≡ name ++ rest → ((bare : Text) → rest ≢ bare ++ line_end) → IsBareLine whole whole
without_end whole rest begins none = other (λ bare is. none bare (append_cancel_left name rest (bare ++ line_end) (sym begins ∙ is ∙ append_assoc name bare line_end)))
