-- Writing the rebased text is the end of the mode that rebases a messages file.
use Rattle.std.proofs.Common.{◌≡◌, ℕ, Option, None, refl}
use Rattle.std.specs.Prelude.{Result, Ok, Err}
use Rattle.mh_grammar.specs.Text.{Text}
use Rattle.mh_msgfile.specs.declared.loose.LooseFile.{LooseFile}
use Rattle.mh_rebase.specs.RebasedText.{IsRebased}
use Rattle.mh_tables_core.specs.Failing.{TooLongAt}
use Rattle.mh_top_drive.specs.code.ModeCalls.{EndIsWritten, TextIsWritten}
use Rattle.mh_top_drive.specs.declared.stop.Stop.{Stop}
use Rattle.mh_top_drive.specs.declared.stop.Stop.TheVariants.{Halted, ShelfFailed, InputFailed, WriteFailed, OutOfMemory}
use Rattle.mh_top_drive.specs.Shapes.{Prepared}
use Rattle.mh_top_plans.specs.Plan.{IsFinalOutput, Plan, Ends, Rebased}
use Rattle.mh_top_plans.specs.Rebased.{Rebases}

-- The plan that rebases the file.
abbrev pub IsPlanOfLoose : Prepared → LooseFile → Plan → Type 0
IsPlanOfLoose p loose plan = plan ≡ Ends (Rebased loose p)

module _ (p : Prepared) (file : LooseFile) (none : (s : ℕ) → TooLongAt p.tabled.halting s → ⊥) (text : Text) (is : IsRebased p.order.comment_expected p.grammar p.tabled.automaton p.tabled.halting file text) (out0 out1 : Option Text) where
  pub text_ends : (r : Result (Unit {0}) Stop) → TextIsWritten text out0 out1 r → EndIsWritten (IsFinalOutput (Rebased file p)) out0 out1 r
  text_ends (Ok u) ran = (record { cause = None; out = text }, Rebases none refl is, refl, ran)
  text_ends (Err WriteFailed) ran = (record { cause = None; out = text }, Rebases none refl is, ran)
  text_ends (Err OutOfMemory) ran = absurd ran
  text_ends (Err (Halted cause)) ran = absurd ran
  text_ends (Err (ShelfFailed name)) ran = absurd ran
  text_ends (Err InputFailed) ran = absurd ran
