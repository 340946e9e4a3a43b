use Rattle.mh_reach_spots.proofs.GotoRows.{FilesFirst}
use Rattle.mh_reach_spots.proofs.goto_rows.file_each.Given as goal

abbrev pub invariant-loop-goto : goal.invariant-loop-goto
invariant-loop-goto l = FilesFirst l.classes l.settled l.gotos l.goto-index l.fn.rows.items l.rows.items
