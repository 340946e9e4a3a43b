use Rattle.std.proofs.Common.{◌≡◌, rules}
use Rattle.mh_top_drive.proofs.Then.{no_names, then_on, then_stops}
use Rattle.mh_grammar.specs.Text.{Text}
use Rattle.mh_top_drive.specs.FileContents.{IsFileContent}
use Rattle.mh_top_plans.specs.MessagesFiles.{IsMessagesFile, IsUpdatedOf}
use Rattle.mh_top_plans.proofs.MessagesFileLines.{file_of_table}
use Rattle.mh_top_modes.proofs.updating.read_updated_file.Goals as goal

pub returns-in-Ok-clause-updated : goal.returns-in-Ok-clause-updated
returns-in-Ok-clause-updated g c =
    let p = c.args.prepared.now in
    let name : Text = c.args.name.now in
    let Names : Text → Type 0 = λ (other : Text). other ≡ name in
    then_on (IsFileContent (g.F.Shelf.files c.args.shelf.now) (IsMessagesFile p.grammar) name) (IsUpdatedOf p name) Names c.in-Ok.file c.updated_of.result c.in-Ok.ensures.spelled (no_names (IsUpdatedOf p name c.in-Ok.file) Names c.updated_of.result c.updated_of.ensures)

pub returns-in-Err-clause-updated : goal.returns-in-Err-clause-updated
returns-in-Err-clause-updated g c =
    let p = c.args.prepared.now in
    let name : Text = c.args.name.now in
    then_stops (IsFileContent (g.F.Shelf.files c.args.shelf.now) (IsMessagesFile p.grammar) name) (IsUpdatedOf p name) (λ (other : Text). other ≡ name) c.in-Err.stop c.in-Err.ensures.spelled

pub updated_of-requires : goal.updated_of-requires
updated_of-requires g c =
    let p = c.args.prepared.now in
    (search rules, (c.requires.few, (c.requires.consistent, file_of_table p.grammar p.tabled.halting c.requires.consistent.table.grammar (g.F.Shelf.files c.args.shelf.now) c.args.name.now c.in-Ok.file c.in-Ok.ensures.spelled)))
