use Rattle.std.proofs.lemmas.List.{take_all}
use Rattle.mh_resolve_settle.proofs.AreCells.{no_more}
use Rattle.mh_resolve_settle.proofs.row.first_reduction.Goals as goal

pub loop-cell-preserved : goal.loop-cell-preserved
loop-cell-preserved c = no_more c.args.cells.now c.loop-cell.cell-index _ c.loop-cell-test.true c.loop-cell.invariant c.in_default.ensures

pub returns : goal.returns
returns c =
    let whole = take_all c.loop-cell.cell-index c.args.cells.now c.loop-cell-test.false in
    rw whole at c.loop-cell.invariant
