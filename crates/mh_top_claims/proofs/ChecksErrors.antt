-- Proves that the end of examining a messages file is unique: the end is either the lines, or a refusal that names one
-- state.
use Rattle.std.proofs.Common.{◌≡◌, ℕ, [], ◌∷◌, Option, None, Some, sym, ◌∙◌, ap, subst}
use Rattle.mh_grammar.specs.declared.types.Grammar.{Grammar}
use Rattle.mh_grammar.specs.Text.{Text}
use Rattle.mh_tables_core.specs.Table.{TableData}
use Rattle.mh_msgfile.specs.declared.blocks.LooseBlocks.{LooseBlocks}
use Rattle.mh_lint_messages.proofs.ErrorTextUnique.{error_text_once}
use Rattle.mh_top_plans.specs.ErrorsChecked.{ChecksErrors, Checks, TooLong, cause_of_lines}
use Rattle.mh_top_plans.specs.Listing.{too_long}
use Rattle.mh_top_drive.specs.declared.stop.Cause.{Cause}
use Rattle.mh_top_drive.specs.declared.stop.Cause.TheVariants.{Refused}
use Rattle.mh_top_claims.proofs.ErrorListUnique.{too_long_once}

module _ (g : Grammar) (t : TableData) (name : Text) (blocks : LooseBlocks) (c d : Option Cause) (x y : Text) where
  pub checked_out_once : ChecksErrors g t name blocks c x → ChecksErrors g t name blocks d y → x ≡ y
  checked_out_once (Checks none cause is) (Checks none' cause' is') = error_text_once g t name blocks x y is is'
  checked_out_once (Checks none cause is) (TooLong s long cause' out) = absurd (none s long)
  checked_out_once (TooLong s long cause out) (Checks none' cause' is) = absurd (none' s long)
  checked_out_once (TooLong s long cause out) (TooLong r also cause' out') = out ∙ sym out'

  pub checked_cause_once : ChecksErrors g t name blocks c x → ChecksErrors g t name blocks d y → c ≡ d
  checked_cause_once (Checks none cause is) (Checks none' cause' is') = cause ∙ ap cause_of_lines (error_text_once g t name blocks x y is is') ∙ sym cause'
  checked_cause_once (Checks none cause is) (TooLong s long cause' out) = absurd (none s long)
  checked_cause_once (TooLong s long cause out) (Checks none' cause' is) = absurd (none' s long)
  checked_cause_once (TooLong s long cause out) (TooLong r also cause' out') = cause ∙ ap (λ (n : ℕ). Some (Refused (too_long n))) (too_long_once t s r long also) ∙ sym cause'

-- The cause of an end is none or a refusal.
module _ (g : Grammar) (t : TableData) (name : Text) (blocks : LooseBlocks) (Allowed : Option Cause → Type 0) (may_refuse : (line : Text) → Allowed (Some (Refused line))) (none : Allowed None) where
  of_lines : (lines : Text) → Allowed (cause_of_lines lines)
  of_lines [] = none
  of_lines (byte ∷ bytes) = may_refuse []

  pub checked_cause_allowed : (c : Option Cause) (x : Text) → ChecksErrors g t name blocks c x → Allowed c
  checked_cause_allowed c x (Checks never cause is) = subst Allowed (sym cause) (of_lines x)
  checked_cause_allowed c x (TooLong s long cause out) = subst Allowed (sym cause) (may_refuse (too_long s))
