use Rattle.std.proofs.Common.{Err, List, Result, refl, subst}
use Rattle.mh_grammar.specs.Text.{Text}
use Rattle.mh_lint_findings.specs.declared.findings.GrammarFile.{GrammarFile}
use Rattle.mh_top_check.proofs.AreExamined.{files_checked, reading_stops, runs_same}
use Rattle.mh_top_check.proofs.AreShort.{files_short}
use Rattle.mh_top_check.proofs.Opened.{IsMode}
use Rattle.mh_top_check.proofs.checking.check_grammar.Goals as goal
use Rattle.mh_top_check.specs.Examination.{IsGrammarFile}
use Rattle.mh_top_check.specs.declared.checking.GrammarFindings.{GrammarFindings}
use Rattle.mh_top_drive.specs.FileContents.{AreFileContents}
use Rattle.mh_top_drive.specs.NextFile.{IsNextFile}
use Rattle.mh_top_drive.specs.code.StageCalls.{FileStageGives}
use Rattle.mh_top_drive.specs.declared.stop.Stop.{Stop}
use Rattle.mh_top_plans.proofs.OpenedAndRan.{opened_followed}

pub check_files-requires-clause-short : goal.check_files-requires-clause-short
check_files-requires-clause-short g c = rw c.as_slice-2.ensures.value (files_short (g.F.Shelf.files c.args.shelf.now) c.as_slice.result.now c.in-Ok.files.items c.in-Ok.ensures.items)

pub returns-in-Err-clause-ran : goal.returns-in-Err-clause-ran
returns-in-Err-clause-ran g c =
    let files = g.F.Shelf.files c.args.shelf.now in
    let opened : Result GrammarFindings Stop = Err c.in-Err.stop in
    let gives = subst (λ (names : List Text). FileStageGives {A = List GrammarFile} (AreFileContents files IsGrammarFile names) (IsNextFile files IsGrammarFile names) (Err c.in-Err.stop)) c.as_slice.ensures c.in-Err.ensures.items in
    opened_followed IsMode _ _ _ _ _ _ _ opened (reading_stops files c.args.order c.in-Err.stop gives) (refl, refl, refl)

pub returns-clause-ran : goal.returns-clause-ran
returns-clause-ran g c =
    let files = g.F.Shelf.files c.args.shelf.now in
    files_checked files c.args.order c.in-Ok.files.items (rw c.as_slice.ensures at c.in-Ok.ensures.items) _ _ _ _ c.check_files.result
    (runs_same c.args.order files _ c.as_slice-2.result.now c.in-Ok.files.items _ _ _ _ c.check_files.result c.in-Ok.ensures.kept c.as_slice-2.ensures.value c.check_files.ensures.ran)
