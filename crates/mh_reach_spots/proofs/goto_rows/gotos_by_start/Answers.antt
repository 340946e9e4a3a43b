use Rattle.mh_reach_spots.proofs.GotoRows.{has_gotos}
use Rattle.mh_reach_spots.proofs.goto_rows.gotos_by_start.Goals as goal

pub file_all-requires-clause-rows : goal.file_all-requires-clause-rows
file_all-requires-clause-rows c = c.in_ok-rows.ensures.rows

pub returns : goal.returns
returns c = has_gotos c.args.table.now c.facts.ensures c.args.classes.now c.args.found.now c.requires.found c.in_ok-rows.rows.items c.file_all.new.rows.items c.in_ok-rows.ensures.rows c.in_ok-rows.ensures.none c.in_ok-file_all.ensures
