use Rattle.std.proofs.Common.{◌≡◌, Err, Option, subst, sym}
use Rattle.mh_check.specs.Texts.{compiled_text}
use Rattle.mh_grammar.specs.Text.{Text}
use Rattle.mh_msgfile.specs.FileTexts.{echo_text}
use Rattle.mh_outside.specs.Shelf.{Files}
use Rattle.mh_top_drive.specs.FileContents.{IsFileContent}
use Rattle.mh_top_drive.specs.declared.stop.Stop.{Stop}
use Rattle.mh_top_modes.specs.FileTexts.{job_for}
use Rattle.mh_top_modes.specs.declared.file_texts.FileText.{FileText}
use Rattle.mh_top_plans.specs.Files.{IsNextFileOfJob}
use Rattle.mh_top_plans.specs.MessagesFiles.{AreMessages, IsMessagesFile, IsUpdatedFile}
use Rattle.mh_top_plans.specs.Plan.{IsPlanOfJob, writing_plan}
use Rattle.mh_top_plans.specs.code.Modes.{Opens, WritesFinal}
use Rattle.mh_top_plans.specs.declared.at_end.FinalText.TheVariants.{Written}
use Rattle.mh_top_plans.proofs.MessagesFileLines.{one_opens}
use Rattle.mh_top_drive.specs.Shapes.{Prepared}
use Rattle.mh_top_modes.proofs.file_texts.text_from_file.Goals as goal

-- A result for the job of a kind of text is one for each value that is equal to this kind.
of_kind : (p : Prepared) (files : Option Files) (file : Text) (kind given : FileText) (stop : Stop) → given ≡ kind
    → Opens WritesFinal (IsPlanOfJob (job_for kind file) files p) (IsNextFileOfJob (job_for kind file) files p) (Err stop)
    → Opens WritesFinal (IsPlanOfJob (job_for given file) files p) (IsNextFileOfJob (job_for given file) files p) (Err stop)
of_kind p files file kind given stop is opens =
    subst (λ (k : FileText). Opens WritesFinal (IsPlanOfJob (job_for k file) files p) (IsNextFileOfJob (job_for k file) files p) (Err stop)) (sym is) opens

pub returns-in-Err-clause-opens : goal.returns-in-Err-clause-opens
returns-in-Err-clause-opens g c =
    let p = c.args.prepared.now in
    let files = g.F.Shelf.files c.args.shelf.now in
    let file = c.args.file.now in
    of_kind p files file _ _ c.in-Err.stop c.in-Compiled.is
    (one_opens p files (IsFileContent files (AreMessages p.grammar p.tabled.halting) file) file WritesFinal (λ messages. writing_plan (Written (compiled_text messages))) c.in-Err.stop c.in-Err.ensures.messages)

pub returns-in-Err-read_spelled_file-clause-opens : goal.returns-in-Err-read_spelled_file-clause-opens
returns-in-Err-read_spelled_file-clause-opens g c =
    let p = c.args.prepared.now in
    let files = g.F.Shelf.files c.args.shelf.now in
    let file = c.args.file.now in
    of_kind p files file _ _ c.in-Err-read_spelled_file.stop c.in-Echoed.is
    (one_opens p files (IsFileContent files (IsMessagesFile p.grammar) file) file WritesFinal (λ spelled. writing_plan (Written (echo_text p.grammar spelled))) c.in-Err-read_spelled_file.stop c.in-Err-read_spelled_file.ensures.spelled)

pub returns-in-Err-read_updated_file-clause-opens : goal.returns-in-Err-read_updated_file-clause-opens
returns-in-Err-read_updated_file-clause-opens g c =
    let p = c.args.prepared.now in
    let files = g.F.Shelf.files c.args.shelf.now in
    let file = c.args.file.now in
    of_kind p files file _ _ c.in-Err-read_updated_file.stop c.in-Updated.is
    (one_opens p files (IsUpdatedFile files p file) file WritesFinal (λ text. writing_plan (Written text)) c.in-Err-read_updated_file.stop c.in-Err-read_updated_file.ensures.updated)
