-- The list of errors of a table is unique: either its catalogue, or the refusal of one state.
use Rattle.std.proofs.Common.{◌≡◌, ◌<◌, ℕ, List, Option, sym, ◌∙◌, ap, subst, inl, inr, arith, Bool, Bool}
use Rattle.std.specs.Prelude.{Some}
use Rattle.std.proofs.lemmas.Bool.{cases_lt}
use Rattle.mh_grammar.specs.declared.types.Grammar.{Grammar}
use Rattle.mh_items_kernels.specs.KernelTypes.{Automaton}
use Rattle.mh_tables_core.specs.Table.{TableData}
use Rattle.mh_tables_core.specs.Failing.{CatalogueRow, TooLongAt}
use Rattle.mh_tables_core.proofs.OneCatalogue.{catalogue_once}
use Rattle.mh_grammar.specs.Text.{Text}
use Rattle.mh_report.specs.CatalogueTexts.{AreEntries}
use Rattle.mh_report.proofs.AreEntries.{entries_once}
use Rattle.mh_top_plans.specs.Listing.{too_long, ListsErrors, Lists, TooLong}
use Rattle.mh_top_drive.specs.declared.stop.Cause.{Cause}
use Rattle.mh_top_drive.specs.declared.stop.Cause.TheVariants.{Refused}

-- Of two states for which a list of errors can be refused, neither is below the other.
not_below : (t : TableData) (s r : ℕ) → TooLongAt t s → TooLongAt t r → s < r → ⊥
not_below t s r long other lt =
    let cheap = other.lowest s lt long.failing in
    let dear = long.all_too_long cheap.0 cheap.1 cheap.2 in
    let le = cheap.3 in
    omega arith

pub too_long_once : (t : TableData) (s r : ℕ) → TooLongAt t s → TooLongAt t r → s ≡ r
too_long_once t s r long other = elim (cases_lt s r) [
  | inl lt ↦ absurd (not_below t s r long other lt)
  | inr le ↦ elim (cases_lt r s) [ inl lt ↦ absurd (not_below t r s other long lt) | inr ge ↦ omega arith ]
]

pub list_cause_once : (expected : Bool) (g : Grammar) (a : Automaton) (t : TableData) (c d : Option Cause) (x y : Text) → ListsErrors expected g a t c x → ListsErrors expected g a t d y → c ≡ d
list_cause_once expected g a t c d x y (Lists none cause list) (Lists none' cause' list') = cause ∙ sym cause'
list_cause_once expected g a t c d x y (Lists none cause list) (TooLong s long cause' out) = absurd (none s long)
list_cause_once expected g a t c d x y (TooLong s long cause out) (Lists none cause' list) = absurd (none s long)
list_cause_once expected g a t c d x y (TooLong s long cause out) (TooLong r also cause' out') = cause ∙ ap (λ (n : ℕ). Some (Refused (too_long n))) (too_long_once t s r long also) ∙ sym cause'

pub list_out_once : (expected : Bool) (g : Grammar) (a : Automaton) (t : TableData) (c d : Option Cause) (x y : Text) → ListsErrors expected g a t c x → ListsErrors expected g a t d y → x ≡ y
list_out_once expected g a t c d x y (Lists none cause list) (Lists none' cause' list') =
    let same = catalogue_once t list'.rows list.rows list'.catalogue list.catalogue in
    entries_once expected g a t list.rows x y list.entries (subst (λ (rows : List CatalogueRow). AreEntries expected g a t rows y) same list'.entries)
list_out_once expected g a t c d x y (Lists none cause list) (TooLong s long cause' out) = absurd (none s long)
list_out_once expected g a t c d x y (TooLong s long cause out) (Lists none cause' list) = absurd (none s long)
list_out_once expected g a t c d x y (TooLong s long cause out) (TooLong r also cause' out') = out ∙ sym out'
