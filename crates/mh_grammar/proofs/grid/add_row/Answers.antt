use Rattle.std.proofs.Common.{arith, ◌≤◌, ◌+◌, ◌*◌, length}
use Rattle.mh_grammar.proofs.FlagTable.{RowAdded-skip, RowAdded-set}
use Rattle.mh_grammar.proofs.grid.add_row.Goals as goal
use Rattle.mh_grammar.proofs.grid.add_row.Goals.{then-flags-from, else-flags-from}

pub loop-column-preserved : goal.loop-column-preserved
loop-column-preserved c =
    let l = c.loop-column in
    let w = c.args.width in
    let fits : c.args.to * w + w ≤ length l.flags = omega arith in
    elim c.if-flags-from.branch [
      | then-flags-from b ↦ rw (b.flags-is, b.grown-is, b.insert-grown.ensures.set) (RowAdded-set w c.args.flags.now l.flags c.args.to c.args.from l.grown l.column c.loop-column-test.true l.invariant b.insert-grown.result fits (rw b.insert-grown.ensures.set at b.insert-grown.ensures.grows) b.if-flags-from.true)
      | else-flags-from b ↦ rw (b.flags-is, b.grown-is) (RowAdded-skip w c.args.flags.now l.flags c.args.to c.args.from l.grown l.column c.loop-column-test.true l.invariant b.if-flags-from.false)
    ]
