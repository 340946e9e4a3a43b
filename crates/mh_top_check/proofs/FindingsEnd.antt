-- Writing the lines on grammar files is the end of the mode that examines them.
use Rattle.std.proofs.Common.{◌≡◌, ◌∙◌, ◌||◌, ◌&&◌, inr, Bool, true, false, List, [], ◌∷◌, Option, None, Some, cond, refl, sym, ap, append-nil}
use Rattle.std.specs.Io.KnownBytes.{Appends}
use Rattle.std.specs.Prelude.{Ok, Err}
use Rattle.mh_grammar.specs.Text.{Text}
use Rattle.mh_join_names.specs.Faults.{has_some}
use Rattle.mh_lint_findings.specs.Lines.{lines_of, lines_text}
use Rattle.mh_lint_findings.specs.declared.findings.Finding.{Finding}
use Rattle.mh_lint_findings.specs.declared.findings.GrammarFile.{GrammarFile}
use Rattle.mh_top_drive.specs.ModeBehavior.{ModeEnd}
use Rattle.mh_top_check.specs.code.WrittenPieces.{WritesInPieces}
use Rattle.mh_top_drive.specs.code.ModeCalls.{EndIsWritten}
use Rattle.mh_top_drive.specs.code.StageCalls.{StopsWith}
use Rattle.mh_top_drive.specs.declared.stop.Cause.{Cause}
use Rattle.mh_top_drive.specs.declared.stop.Cause.TheVariants.{Refused}
use Rattle.mh_top_drive.specs.declared.stop.Stop.{Stop}
use Rattle.mh_top_drive.specs.declared.stop.Stop.TheVariants.{Halted, InputFailed, OutOfMemory, ShelfFailed, WriteFailed}
use Rattle.mh_top_plans.specs.GrammarChecked.{cause_of_findings}
use Rattle.mh_top_plans.specs.Plan.{Findings, IsFinalOutput}

-- The cause of the end by the test of the code.
cause_by_test : (strict faulty : Bool) (findings : List Finding) → cause_of_findings strict faulty (lines_of findings) ≡ cond (faulty || (strict && has_some findings)) (Some (Refused [])) None
cause_by_test strict true findings = refl
cause_by_test true false [] = refl
cause_by_test false false [] = refl
cause_by_test true false (f ∷ fs) = refl
cause_by_test false false (f ∷ fs) = refl

module _ (files : List GrammarFile) (strict faulty : Bool) (findings : List Finding) (text : Text) (is : text ≡ lines_text files (lines_of findings)) (out0 out1 : Option Text) where
  abbrev IsEnd : ModeEnd → Type 0
  IsEnd = IsFinalOutput (Findings files strict faulty (lines_of findings))

  abbrev is_refused : Bool
  is_refused = faulty || (strict && has_some findings)

  end_with : (cause : Option Cause) → cause ≡ cause_of_findings strict faulty (lines_of findings) → IsEnd (record { cause = cause; out = text })
  end_with cause same = record { cause_is = same; written = is }

  cause_at : (b : Bool) → is_refused ≡ b → cond b (Some (Refused [])) None ≡ cause_of_findings strict faulty (lines_of findings)
  cause_at b tested = sym (cause_by_test strict faulty findings ∙ ap (λ (t : Bool). cond t (Some (Refused [])) None) tested)

  pub whole_end : (u : Unit {0}) → is_refused ≡ false → Appends out0 out1 text → EndIsWritten IsEnd out0 out1 (Ok u)
  whole_end u tested ends = (record { cause = None; out = text }, end_with None (cause_at false tested), refl, ends)

  pub refused_end : (stop : Stop) → is_refused ≡ true → Appends out0 out1 text → StopsWith (Refused []) stop → EndIsWritten IsEnd out0 out1 (Err stop)
  refused_end (Halted cause) tested ends halts = (record { cause = Some cause; out = text }, end_with (Some cause) (ap Some halts ∙ cause_at true tested), refl, ends)
  refused_end OutOfMemory tested ends halts = inr (record { cause = Some (Refused []); out = text }, end_with (Some (Refused [])) (cause_at true tested), (text, ends, ([], sym (append-nil text))))
  refused_end (ShelfFailed name) tested ends halts = absurd halts
  refused_end InputFailed tested ends halts = absurd halts
  refused_end WriteFailed tested ends halts = absurd halts

  pub failed_end : (stop : Stop) → WritesInPieces text out0 out1 (Err stop) → EndIsWritten IsEnd out0 out1 (Err stop)
  failed_end WriteFailed part = (record { cause = cause_of_findings strict faulty (lines_of findings); out = text }, end_with (cause_of_findings strict faulty (lines_of findings)) refl, part)
  failed_end OutOfMemory part = inr (record { cause = cause_of_findings strict faulty (lines_of findings); out = text }, end_with (cause_of_findings strict faulty (lines_of findings)) refl, part)
  failed_end (Halted cause) part = absurd part
  failed_end (ShelfFailed name) part = absurd part
  failed_end InputFailed part = absurd part
