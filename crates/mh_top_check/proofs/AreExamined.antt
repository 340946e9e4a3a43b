-- The results of reading grammar files and of examining them are results of both stages together.
use Rattle.std.proofs.Common.{◌≡◌, inl, inr, Bool, List, Option, refl, subst}
use Rattle.std.specs.Prelude.{Result, Ok, Err}
use Rattle.mh_grammar.specs.Text.{Text}
use Rattle.mh_lint_findings.specs.Lines.{Line}
use Rattle.mh_lint_findings.specs.declared.findings.GrammarFile.{GrammarFile}
use Rattle.mh_opts.specs.declared.order.Order.{Order}
use Rattle.mh_outside.specs.Shelf.{Files}
use Rattle.mh_top_check.proofs.Opened.{IsMode}
use Rattle.mh_top_check.specs.Examination.{IsExamination, IsGrammarFile, IsNextOfCheck, IsPlanOfCheck, OfGrammar, OfTables}
use Rattle.mh_top_check.specs.code.Findings.{AreTablesNext, IsPlanOfFiles, plan_of_files}
use Rattle.mh_top_drive.specs.FileContents.{AreFileContents}
use Rattle.mh_top_drive.specs.NextFile.{IsNextFile}
use Rattle.mh_top_drive.specs.StageResults.{StageResult, Go, Halt}
use Rattle.mh_top_drive.specs.code.StageCalls.{FileStageGives}
use Rattle.mh_top_drive.specs.declared.stop.Stop.{Stop}
use Rattle.mh_top_drive.specs.declared.stop.Stop.TheVariants.{Halted, InputFailed, OutOfMemory, ShelfFailed, WriteFailed}
use Rattle.mh_top_plans.specs.Plan.{Plan}
use Rattle.mh_top_plans.specs.code.Modes.{IsUnopened, OpenedAndRan, Opens}

module _ (files : Option Files) (order : Order) where
  pub reading_stops : (stop : Stop) → FileStageGives {A = List GrammarFile} (AreFileContents files IsGrammarFile order.grammars) (IsNextFile files IsGrammarFile order.grammars) (Err stop) → Opens IsMode (IsPlanOfCheck order files) (IsNextOfCheck order files) (Err stop)
  reading_stops (Halted cause) has = (Halt cause, (Halt cause, has, refl), refl)
  reading_stops (ShelfFailed name) has = OfGrammar has
  reading_stops OutOfMemory has = tt
  reading_stops InputFailed has = absurd has
  reading_stops WriteFailed has = absurd has

  module _ (named : List GrammarFile) (are : AreFileContents files IsGrammarFile order.grammars (Go named)) where
    examined_plan : (plan : Plan) (s : StageResult (Bool × List Line)) → IsExamination files order named s → plan ≡ plan_of_files order named s → IsPlanOfCheck order files plan
    examined_plan plan (Go result) is same = (Go (named, result), (Go named, are, (Go result, is, refl)), same)
    examined_plan plan (Halt cause) is same = (Halt cause, (Go named, are, (Halt cause, is, refl)), same)

    tables_next : (r : Result (Unit {0}) Stop) → IsUnopened (AreTablesNext order named) r → IsUnopened (IsNextOfCheck order files) r
    tables_next (Err (ShelfFailed name)) next = OfTables named next.stages are next.accepts next.named_is
    tables_next (Err OutOfMemory) next = tt
    tables_next (Err (Halted cause)) next = absurd next
    tables_next (Err InputFailed) next = absurd next
    tables_next (Err WriteFailed) next = absurd next
    tables_next (Ok u) next = absurd next

    -- A run on the files that were read is a run of the whole mode.
    pub files_checked : (in0 in1 out0 out1 : Option Text) (r : Result (Unit {0}) Stop) → OpenedAndRan (IsPlanOfFiles files order named) (AreTablesNext order named) in0 in1 out0 out1 r → OpenedAndRan (IsPlanOfCheck order files) (IsNextOfCheck order files) in0 in1 out0 out1 r
    files_checked in0 in1 out0 out1 r (inl ran) = inl (ran.0, examined_plan ran.0 ran.1.0 ran.1.1 ran.1.2, ran.2)
    files_checked in0 in1 out0 out1 r (inr unopened) = inr (tables_next r unopened.0, unopened.1, unopened.2)

-- A run on the files of a list is a run on those of an equal list, with the same files on the shelf.
pub runs_same : (order : Order) (old new : Option Files) (given named : List GrammarFile) (in0 in1 out0 out1 : Option Text) (r : Result (Unit {0}) Stop) → new ≡ old → given ≡ named → OpenedAndRan (IsPlanOfFiles new order given) (AreTablesNext order given) in0 in1 out0 out1 r → OpenedAndRan (IsPlanOfFiles old order named) (AreTablesNext order named) in0 in1 out0 out1 r
runs_same order old new given named in0 in1 out0 out1 r kept same ran =
    subst (λ (files : Option Files). OpenedAndRan (IsPlanOfFiles files order named) (AreTablesNext order named) in0 in1 out0 out1 r) kept
    (subst (λ (gs : List GrammarFile). OpenedAndRan (IsPlanOfFiles new order gs) (AreTablesNext order gs) in0 in1 out0 out1 r) same ran)
