-- Writing the lines is the end of the mode that examines a messages file.
use Rattle.std.proofs.Common.{◌≡◌, ◌⊎◌, ℕ, Option, refl, sym, inl, inr, ap, subst}
use Rattle.std.specs.Prelude.{Result, Ok, Err}
use Rattle.mh_grammar.specs.Text.{Text}
use Rattle.mh_msgfile.specs.declared.blocks.LooseBlocks.{LooseBlocks}
use Rattle.mh_rebase.specs.ErrorLines.{IsErrorText}
use Rattle.mh_tables_core.specs.Failing.{TooLongAt}
use Rattle.mh_top_drive.specs.code.ModeCalls.{EndIsWritten}
use Rattle.mh_top_drive.specs.ModeBehavior.{ModeEnd}
use Rattle.mh_top_drive.specs.declared.stop.Stop.{Stop}
use Rattle.mh_top_drive.specs.declared.stop.Stop.TheVariants.{Halted, ShelfFailed, InputFailed, WriteFailed, OutOfMemory}
use Rattle.mh_top_drive.specs.Shapes.{Prepared}
use Rattle.mh_top_plans.specs.ErrorsChecked.{Checks, cause_of_lines}
use Rattle.mh_top_plans.specs.Plan.{IsFinalOutput, Plan, Ends, Checked}

-- The plan that examines the file of these blocks.
abbrev pub IsPlanOfBlocks : Prepared → Text → LooseBlocks → Plan → Type 0
IsPlanOfBlocks p name blocks plan = plan ≡ Ends (Checked name blocks p)

-- The end of the mode that writes these lines.
abbrev pub end_with_lines : Text → ModeEnd
end_with_lines lines = record { cause = cause_of_lines lines; out = lines }

module _ (p : Prepared) (name : Text) (blocks : LooseBlocks) (none : (s : ℕ) → TooLongAt p.tabled.halting s → ⊥) (lines : Text) (is : IsErrorText p.grammar p.tabled.halting name blocks lines) (out0 out1 : Option Text) where
  end_is : (e : ModeEnd) → e ≡ end_with_lines lines → IsFinalOutput (Checked name blocks p) e
  end_is e same = subst (IsFinalOutput (Checked name blocks p)) (sym same) (Checks none refl is)

  pub lines_end : (r : Result (Unit {0}) Stop) → EndIsWritten (λ e. e ≡ end_with_lines lines) out0 out1 r → EndIsWritten (IsFinalOutput (Checked name blocks p)) out0 out1 r
  lines_end (Ok u) (e, same, cause, ends) = (e, end_is e same, cause, ends)
  lines_end (Err (Halted cause)) (e, same, halted, ends) = (e, end_is e same, halted, ends)
  lines_end (Err WriteFailed) (e, same, part) = (e, end_is e same, part)
  lines_end (Err OutOfMemory) (inl stays) = inl stays
  lines_end (Err OutOfMemory) (inr (e, same, part)) = inr (e, end_is e same, part)
  lines_end (Err (ShelfFailed file)) ran = absurd ran
  lines_end (Err InputFailed) ran = absurd ran
