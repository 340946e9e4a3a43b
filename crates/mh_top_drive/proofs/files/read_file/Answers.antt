use Rattle.std.proofs.Common.{◌≡◌}
use Rattle.mh_top_drive.specs.FileContents.{IsLoaded}
use Rattle.mh_grammar.specs.Text.{Text}
use Rattle.mh_top_drive.proofs.Then.{no_names, then_on, then_stops}
use Rattle.mh_top_drive.proofs.files.read_file.Goals as goal

pub returns-in-Ok-clause-item : goal.returns-in-Ok-clause-item
returns-in-Ok-clause-item g c =
    let files = g.F.Shelf.files c.args.shelf.now in
    let name : Text = c.args.name.now in
    then_on (IsLoaded files name) (g.S.FileFormat.Spells c.args.spelling.now name) (λ other. other ≡ name) c.in-Ok.bytes.items c.spell.result c.in-Ok.ensures.bytes
    (no_names (g.S.FileFormat.Spells c.args.spelling.now name c.in-Ok.bytes.items) (λ other. other ≡ name) c.spell.result c.spell.ensures)

pub returns-in-Err-clause-item : goal.returns-in-Err-clause-item
returns-in-Err-clause-item g c =
    let files = g.F.Shelf.files c.args.shelf.now in
    let name : Text = c.args.name.now in
    then_stops (IsLoaded files name) (g.S.FileFormat.Spells c.args.spelling.now name) (λ other. other ≡ name) c.in-Err.stop c.in-Err.ensures.bytes
