use Rattle.std.proofs.Common.{◌∙◌, arith}
use Rattle.std.proofs.lemmas.List.Elements.{Contains-get_or}
use Rattle.mh_reach_spots.proofs.GotoRows.{first_files_all, first_files_begin, first_files_next}
use Rattle.mh_reach_spots.proofs.goto_rows.file_each.Goals as goal

pub loop-goto-init : goal.loop-goto-init
loop-goto-init c = first_files_begin c.args.classes.now c.args.settled.now c.args.gotos.now c.args.rows.now.items

pub file-requires-clause-goto : goal.file-requires-clause-goto
file-requires-clause-goto c = c.requires.gotos _ (Contains-get_or c.args.gotos.now c.loop-goto.goto-index _ c.loop-goto-test.true)

pub file-requires-clause-rows : goal.file-requires-clause-rows
file-requires-clause-rows c = c.loop-goto.invariant.len ∙ c.requires.rows

pub loop-goto-preserved : goal.loop-goto-preserved
loop-goto-preserved c = first_files_next c.args.classes.now c.args.settled.now c.args.gotos.now c.args.rows.now.items c.loop-goto.goto-index _ c.loop-goto.rows.items c.file.new.rows.items c.loop-goto-test.true c.loop-goto.invariant c.in_ok-file.ensures

pub returns : goal.returns
returns c = first_files_all c.args.classes.now c.args.settled.now c.args.gotos.now c.args.rows.now.items c.loop-goto.goto-index c.loop-goto.rows.items (let a = c.loop-goto-test.false in let b = c.loop-goto.auto.goto-index-end in omega arith) c.loop-goto.invariant
