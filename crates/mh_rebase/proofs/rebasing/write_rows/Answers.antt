use Rattle.mh_rebase.proofs.WritesRows.{rows_none, rows_more}
use Rattle.mh_rebase.proofs.rebasing.write_rows.Goals as goal

pub loop-row-init : goal.loop-row-init
loop-row-init g c = rows_none c.args.to.now.expected c.args.to.now.grammar.now c.args.to.now.automaton.now c.args.to.now.table.now c.args.kept.now c.args.text.now.items

pub loop-row-preserved : goal.loop-row-preserved
loop-row-preserved g c =
    rows_more c.args.to.now.expected c.args.to.now.grammar.now c.args.to.now.automaton.now c.args.to.now.table.now c.args.kept.now c.args.rows.now c.loop-row.row-index c.row-item.result c.args.text.now.items c.loop-row.text.items c.write_row.new.text.items c.loop-row-test.true
    c.row-item.is c.loop-row.invariant c.in_ok-write_row.ensures
