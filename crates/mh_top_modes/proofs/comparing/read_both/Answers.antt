use Rattle.std.proofs.Common.{◌≡◌, subst}
use Rattle.std.specs.Prelude.{Option, Err}
use Rattle.mh_outside.specs.Shelf.{Files}
use Rattle.mh_grammar.specs.Text.{Text}
use Rattle.mh_top_drive.specs.code.StageCalls.{FileStageGives}
use Rattle.mh_top_drive.specs.FileContents.{IsFileContent}
use Rattle.mh_top_plans.specs.MessagesFiles.{AreMessages, Messages}
use Rattle.mh_top_modes.proofs.AreMessagesOfBoth.{first_stops, second_stops}
use Rattle.mh_top_modes.proofs.comparing.read_both.Goals as goal

pub returns-in-Err-clause-both : goal.returns-in-Err-clause-both
returns-in-Err-clause-both g c = first_stops c.args.prepared.now c.args.first.now c.args.second.now (g.F.Shelf.files c.args.shelf.now) c.in-Err.stop c.in-Err.ensures.messages

pub returns-in-Err-read_messages_file-clause-both : goal.returns-in-Err-read_messages_file-clause-both
returns-in-Err-read_messages_file-clause-both g c =
    let p = c.args.prepared.now in
    let second : Text = c.args.second.now in
    let stop = c.in-Err-read_messages_file.stop in
    second_stops p c.args.first.now second (g.F.Shelf.files c.args.shelf.now) c.in-Ok.left stop c.in-Ok.ensures.messages
    (subst (λ (files : Option Files). FileStageGives {A = Messages} (IsFileContent files (AreMessages p.grammar p.tabled.halting) second) (λ (other : Text). other ≡ second) (Err stop)) c.in-Ok.ensures.kept c.in-Err-read_messages_file.ensures.messages)
