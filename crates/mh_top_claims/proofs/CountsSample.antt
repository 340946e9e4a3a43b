-- The counts of a sample are unique, and they end without a cause or with a refusal.
use Rattle.std.proofs.Common.{◌≡◌, ℕ, List, length, Option, None, Some, sym, ◌∙◌, ap, subst}
use Rattle.mh_grammar.specs.declared.types.Grammar.{Grammar}
use Rattle.mh_tables_core.specs.Table.{TableData}
use Rattle.mh_tables_core.specs.Failing.{CatalogueRow}
use Rattle.mh_tables_core.proofs.OneCatalogue.{catalogue_once}
use Rattle.mh_sample.specs.Counts.{IsSampleLine}
use Rattle.mh_sample.proofs.SampleLineUnique.{line_once}
use Rattle.mh_grammar.specs.Text.{Text}
use Rattle.mh_top_drive.specs.declared.stop.Cause.{Cause}
use Rattle.mh_top_drive.specs.declared.stop.Cause.TheVariants.{Refused}
use Rattle.mh_top_plans.specs.Listing.{too_long}
use Rattle.mh_top_plans.specs.Sampled.{CountsSample, Counts, TooLong}
use Rattle.mh_top_claims.proofs.ErrorListUnique.{too_long_once}

module _ (g : Grammar) (t : TableData) (number : ℕ) where
  pub counts_cause_once : (c d : Option Cause) (x y : Text) → CountsSample g t number c x → CountsSample g t number d y → c ≡ d
  counts_cause_once c d x y (Counts none cause text) (Counts none' cause' text') = cause ∙ sym cause'
  counts_cause_once c d x y (Counts none cause text) (TooLong s long cause' out) = absurd (none s long)
  counts_cause_once c d x y (TooLong s long cause out) (Counts none cause' text) = absurd (none s long)
  counts_cause_once c d x y (TooLong s long cause out) (TooLong r also cause' out') = cause ∙ ap (λ (n : ℕ). Some (Refused (too_long n))) (too_long_once t s r long also) ∙ sym cause'

  pub counts_out_once : (c d : Option Cause) (x y : Text) → CountsSample g t number c x → CountsSample g t number d y → x ≡ y
  counts_out_once c d x y (Counts none cause text) (Counts none' cause' text') =
      let same : text'.rows ≡ text.rows = catalogue_once t text'.rows text.rows text'.catalogue text.catalogue in
      line_once t g number (length text.rows) x y text.line (subst (λ (rows : List CatalogueRow). IsSampleLine g t number (length rows) y) same text'.line)
  counts_out_once c d x y (Counts none cause text) (TooLong s long cause' out) = absurd (none s long)
  counts_out_once c d x y (TooLong s long cause out) (Counts none cause' text) = absurd (none s long)
  counts_out_once c d x y (TooLong s long cause out) (TooLong r also cause' out') = out ∙ sym out'

  pub counts_right : (Is : Option Cause → Type 0) → ((line : Text) → Is (Some (Refused line))) → Is None → (cause : Option Cause) (out : Text) → CountsSample g t number cause out → Is cause
  counts_right Is may none cause out (Counts never same text) = subst Is (sym same) none
  counts_right Is may none cause out (TooLong s long same empty) = subst Is (sym same) (may (too_long s))
