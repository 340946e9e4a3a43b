use Rattle.std.proofs.Common.{List, get_or, map, refl}
use Rattle.mh_grammar.specs.declared.edges.Edge.{Edge}
use Rattle.mh_grammar.specs.declared.types.Symbol.TheVariants.{T}
use Rattle.mh_tabfile_form.specs.Form.{edge_line}
use Rattle.mh_tabfile_form.specs.TableContent.{raw_edge}
use Rattle.mh_tabfile.specs.code.Texts.{line_written, lines_written}
use Rattle.mh_tabfile.proofs.LinesWritten.{item_more}
use Rattle.mh_tabfile.proofs.writing.write_edges.Goals as goal

pub loop-edge-preserved : goal.loop-edge-preserved
loop-edge-preserved c =
    let grammar = c.args.grammar.now in
    let i = c.loop-edge.edge-index in
    record {
      rest = item_more (λ (xs : List Edge). lines_written (map edge_line (map (raw_edge grammar) xs))) c.args.edges.now i (record { symbol = T 0; target = 0 }) (get_or c.args.edges.now i (record { symbol = T 0; target = 0 })) (line_written (edge_line (raw_edge grammar (get_or c.args.edges.now i (record { symbol = T 0; target = 0 })))))
          c.args.text.now.items c.loop-edge.text.items c.write_edge.new.text.items c.loop-edge-test.true refl refl c.in_ok-write_edge.ensures c.loop-edge.invariant.rest;
    }
