use Rattle.std.proofs.Common.{List, map, refl}
use Rattle.mh_grammar.specs.declared.types.Production.{Production}
use Rattle.mh_tabfile_form.specs.Form.{production_line}
use Rattle.mh_tabfile_form.specs.TableContent.{raw_production}
use Rattle.mh_tabfile.specs.code.Texts.{line_written, lines_written}
use Rattle.mh_tabfile.proofs.LinesWritten.{item_more}
use Rattle.mh_tabfile.proofs.writing.write_productions.Goals as goal

pub loop-production-preserved : goal.loop-production-preserved
loop-production-preserved c =
    let grammar = c.args.grammar.now in
    let i = c.loop-production.production-index in
    record {
      rest = item_more (λ (xs : List Production). lines_written (map production_line (map (raw_production grammar) xs))) c.args.productions.now i c.production-item.result c.production-item.result (line_written (production_line (raw_production grammar c.production-item.result)))
          c.args.text.now.items c.loop-production.text.items c.write_production.new.text.items c.loop-production-test.true c.production-item.is refl c.in_ok-write_production.ensures c.loop-production.invariant.rest;
    }
