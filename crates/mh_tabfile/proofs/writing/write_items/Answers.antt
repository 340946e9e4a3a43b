use Rattle.std.proofs.Common.{List, map, refl}
use Rattle.mh_items_kernels.specs.KernelTypes.{KernelItem}
use Rattle.mh_tabfile_form.specs.Form.{item_line}
use Rattle.mh_tabfile_form.specs.TableContent.{raw_item}
use Rattle.mh_tabfile.specs.code.Texts.{line_written, lines_written}
use Rattle.mh_tabfile.proofs.LinesWritten.{item_more}
use Rattle.mh_tabfile.proofs.writing.write_items.Goals as goal

pub loop-item-preserved : goal.loop-item-preserved
loop-item-preserved g c =
    let grammar = c.args.grammar.now in
    let i = c.loop-item.item-index in
    record {
      rest = item_more (λ (xs : List KernelItem). lines_written (map item_line (map (raw_item grammar) xs))) c.args.items.now i c.item-item.result c.item-item.result (line_written (item_line (raw_item grammar c.item-item.result)))
          c.args.text.now.items c.loop-item.text.items c.write_item.new.text.items c.loop-item-test.true c.item-item.is refl c.in_ok-write_item.ensures c.loop-item.invariant.rest;
    }
