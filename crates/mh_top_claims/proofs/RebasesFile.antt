-- The end of rebasing a messages file is unique: either the rebased text, or the refusal of one state.
use Rattle.std.proofs.Common.{◌≡◌, ℕ, Bool, Option, None, Some, sym, ◌∙◌, ap, subst}
use Rattle.mh_grammar.specs.declared.types.Grammar.{Grammar}
use Rattle.mh_grammar.specs.Text.{Text}
use Rattle.mh_items_kernels.specs.KernelTypes.{Automaton}
use Rattle.mh_tables_core.specs.Table.{TableData}
use Rattle.mh_msgfile.specs.declared.loose.LooseFile.{LooseFile}
use Rattle.mh_rebase.proofs.RebasedUnique.{rebased_once}
use Rattle.mh_top_plans.specs.Listing.{too_long}
use Rattle.mh_top_plans.specs.Rebased.{RebasesFile, Rebases, TooLong}
use Rattle.mh_top_drive.specs.declared.stop.Cause.{Cause}
use Rattle.mh_top_drive.specs.declared.stop.Cause.TheVariants.{Refused}
use Rattle.mh_top_claims.proofs.ErrorListUnique.{too_long_once}

module _ (expected : Bool) (g : Grammar) (a : Automaton) (t : TableData) (file : LooseFile) (c d : Option Cause) (x y : Text) where
  pub rebased_cause_once : RebasesFile expected g a t file c x → RebasesFile expected g a t file d y → c ≡ d
  rebased_cause_once (Rebases none cause is) (Rebases none' cause' is') = cause ∙ sym cause'
  rebased_cause_once (Rebases none cause is) (TooLong s long cause' out) = absurd (none s long)
  rebased_cause_once (TooLong s long cause out) (Rebases none' cause' is) = absurd (none' s long)
  rebased_cause_once (TooLong s long cause out) (TooLong r also cause' out') = cause ∙ ap (λ (n : ℕ). Some (Refused (too_long n))) (too_long_once t s r long also) ∙ sym cause'

  pub rebased_out_once : RebasesFile expected g a t file c x → RebasesFile expected g a t file d y → x ≡ y
  rebased_out_once (Rebases none cause is) (Rebases none' cause' is') = rebased_once expected g a t file x y is is'
  rebased_out_once (Rebases none cause is) (TooLong s long cause' out) = absurd (none s long)
  rebased_out_once (TooLong s long cause out) (Rebases none' cause' is) = absurd (none' s long)
  rebased_out_once (TooLong s long cause out) (TooLong r also cause' out') = out ∙ sym out'

-- The cause of an end is none or a refusal.
module _ (expected : Bool) (g : Grammar) (a : Automaton) (t : TableData) (file : LooseFile) (Allowed : Option Cause → Type 0) (may_refuse : (line : Text) → Allowed (Some (Refused line))) (none : Allowed None) where
  pub rebased_right : (c : Option Cause) (x : Text) → RebasesFile expected g a t file c x → Allowed c
  rebased_right c x (Rebases never cause is) = subst Allowed (sym cause) none
  rebased_right c x (TooLong s long cause out) = subst Allowed (sym cause) (may_refuse (too_long s))
