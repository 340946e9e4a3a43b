use Rattle.mh_reach_spots.proofs.GotoRows.{FilesFirstRows}
use Rattle.mh_reach_spots.proofs.goto_rows.file_all.Given as goal

abbrev pub invariant-loop-gotos : goal.invariant-loop-gotos
invariant-loop-gotos l = FilesFirstRows l.classes l.found.settled l.found.work.gotos.items l.gotos-index l.fn.rows.items l.rows.items
