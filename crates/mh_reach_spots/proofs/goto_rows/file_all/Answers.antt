use Rattle.std.proofs.Common.{◌≡◌, ◌≤◌, ◌∙◌, arith, length}
use Rattle.mh_reach_spots.proofs.GotoRows.{first_rows_all, first_rows_begin, first_rows_next, row_in_range}
use Rattle.mh_reach_spots.proofs.goto_rows.file_all.Goals as goal

pub loop-gotos-init : goal.loop-gotos-init
loop-gotos-init c = first_rows_begin c.args.classes.now c.args.found.now.settled c.args.found.now.work.gotos.items c.args.rows.now.items

pub file_each-requires-clause-gotos : goal.file_each-requires-clause-gotos
file_each-requires-clause-gotos c g there =
    let same = c.as_slice-gotos-items.ensures.value in
    row_in_range c.args.table.now c.args.classes.now c.args.found.now c.requires.found c.loop-gotos.gotos-index c.gotos-item.result (rw same at c.loop-gotos-test.true) (rw same at c.gotos-item.is) g (rw c.as_slice.ensures.value at there)

pub file_each-requires-clause-rows : goal.file_each-requires-clause-rows
file_each-requires-clause-rows c = c.loop-gotos.invariant.len ∙ c.requires.rows

pub loop-gotos-preserved : goal.loop-gotos-preserved
loop-gotos-preserved c =
    let same = c.as_slice-gotos-items.ensures.value in
    first_rows_next c.args.classes.now c.args.found.now.settled c.args.found.now.work.gotos.items c.args.rows.now.items c.loop-gotos.gotos-index c.gotos-item.result c.loop-gotos.rows.items c.file_each.new.rows.items
    (rw same at c.loop-gotos-test.true) (rw same at c.gotos-item.is) c.loop-gotos.invariant (rw c.as_slice.ensures.value at c.in_ok-file_each.ensures)

pub returns : goal.returns
returns c =
    let from = c.args.found.now.work.gotos.items in
    let all : length from ≤ c.loop-gotos.gotos-index = rw c.as_slice-gotos-items.ensures.value at c.loop-gotos-test.false in
    let most : c.loop-gotos.gotos-index ≤ length from = rw c.as_slice-gotos-items.ensures.value at c.loop-gotos.auto.gotos-index-end in
    let e : c.loop-gotos.gotos-index ≡ length from = omega (arith, all, most) in
    first_rows_all c.args.classes.now c.args.found.now.settled from c.args.rows.now.items c.loop-gotos.gotos-index c.loop-gotos.rows.items e c.loop-gotos.invariant
