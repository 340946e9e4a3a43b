use Rattle.std.proofs.Common.{◌<◌, map, arith}
use Rattle.mh_tables_core.specs.Table.{state_at}
use Rattle.mh_tabfile_form.specs.Form.{cell_line}
use Rattle.mh_tabfile_form.specs.TableContent.{raw_row}
use Rattle.mh_tabfile.proofs.LinesWritten.{row_more}
use Rattle.mh_tabfile.proofs.writing.write_cells.Goals as goal

pub loop-token-preserved : goal.loop-token-preserved
loop-token-preserved c =
    let cells = (state_at c.args.table.now c.args.state).cells in
    row_more c.args.grammar.now c.args.table.now c.args.state c.loop-token.token c.action.result c.args.text.now.items c.loop-token.text.items c.write_cell.new.text.items
    (map cell_line (raw_row c.args.grammar.now 0 cells)) (omega (arith, c.facts.ensures.ranges.each_row c.args.state c.requires.state, c.tokens-token-end.ensures, c.loop-token-test.true))
    c.action.ensures c.loop-token.invariant (c.in_ok-write_cell.ensures)
