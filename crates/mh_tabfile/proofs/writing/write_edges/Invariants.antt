use Rattle.std.proofs.Common.{◌≡◌, ◌++◌, drop, map}
use Rattle.mh_tabfile_form.specs.Form.{edge_line}
use Rattle.mh_tabfile.specs.code.Texts.{lines_written}
use Rattle.mh_tabfile_form.specs.TableContent.{raw_edge}
use Rattle.mh_tabfile.proofs.writing.write_edges.Given as goal

abbrev pub invariant-loop-edge : goal.invariant-loop-edge
invariant-loop-edge l = record {
  rest : l.text.items ++ lines_written (map edge_line (map (raw_edge l.grammar) (drop l.edge-index l.edges))) ≡ l.initial.text.items ++ lines_written (map edge_line (map (raw_edge l.grammar) l.edges));
}
