use Rattle.std.proofs.Common.{◌++◌, map, codes}
use Rattle.mh_items_kernels.specs.Automaton.{kernel_at, edges_at}
use Rattle.mh_tables_core.specs.Table.{state_at}
use Rattle.mh_tabfile_form.specs.Form.{count_line, item_line, edge_line, cells_lines}
use Rattle.mh_tabfile_form.specs.TableContent.{raw_item, raw_edge, raw_cells}
use Rattle.mh_tabfile.proofs.LinesWritten.{line_then_lines, lines_then_lines, items_written, edges_written}
use Rattle.mh_tabfile.proofs.writing.write_state.Goals as goal

pub returns : goal.returns
returns g c =
    let grammar = c.args.grammar.now in
    let automaton = c.args.automaton.now in
    let state = c.args.state in
    let items = map item_line (map (raw_item grammar) (kernel_at automaton state).items) in
    let edges = map edge_line (map (raw_edge grammar) (edges_at automaton state)) in
    let cells = cells_lines (raw_cells grammar (state_at c.args.table.now state)) in
    line_then_lines (count_line (codes "state") state) (items ++ (edges ++ cells)) c.args.text.now.items c.write_count.new.text.items c.write_actions.new.text.items (c.in_ok-write_count.ensures)
    (lines_then_lines items (edges ++ cells) c.write_count.new.text.items c.write_items.new.text.items c.write_actions.new.text.items
    (items_written grammar automaton state c.index.result.now c.as_slice.result.now c.write_count.new.text.items c.write_items.new.text.items c.requires.kernel c.index.ensures c.as_slice.ensures (c.in_ok-write_items.ensures))
    (lines_then_lines edges cells c.write_items.new.text.items c.write_edges.new.text.items c.write_actions.new.text.items
    (edges_written grammar automaton state c.as_slice-2.result.now c.index-2.result.now c.write_items.new.text.items c.write_edges.new.text.items c.requires.edges c.index-2.ensures c.as_slice-2.ensures (c.in_ok-write_edges.ensures))
    (c.in_ok-write_actions.ensures)))
