use Rattle.std.proofs.Common.{◌≡◌, ◌++◌, drop, map}
use Rattle.mh_tables_core.specs.Table.{state_at}
use Rattle.mh_tabfile_form.specs.Form.{cell_line}
use Rattle.mh_tabfile_form.specs.TableContent.{raw_row}
use Rattle.mh_tabfile.specs.code.Texts.{lines_written}
use Rattle.mh_tabfile.proofs.writing.write_cells.Given as goal

abbrev pub invariant-loop-token : goal.invariant-loop-token
invariant-loop-token l =
    l.text.items ++ lines_written (map cell_line (raw_row l.grammar l.token (drop l.token (state_at l.table l.state).cells)))
    ≡ l.initial.text.items ++ lines_written (map cell_line (raw_row l.grammar 0 (state_at l.table l.state).cells))
