use Rattle.mh_lint_findings.proofs.PlacesWithin.{at_in, place_known}
use Rattle.mh_lint_findings.proofs.lines.write_position.Goals as goal

pub returns-in-InFile-clause-there : goal.returns-in-InFile-clause-there
returns-in-InFile-clause-there c =
    let known = place_known c.args.files.now c.in-InFile.file c.in-InFile.start c.index-files-file.result (rw c.in-InFile.is at c.requires.within) c.requires.short c.index-files-file.is in
    at_in c.args.files.now c.in-InFile.file c.index-files-file.result c.write_in_file.new.cursor known.at c.write_in_file.ensures.file c.write_in_file.ensures.there
