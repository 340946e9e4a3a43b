use Rattle.std.proofs.Common.{◌≡◌, ◌++◌, drop, map}
use Rattle.mh_tabfile_form.specs.Form.{item_line}
use Rattle.mh_tabfile.specs.code.Texts.{lines_written}
use Rattle.mh_tabfile_form.specs.TableContent.{raw_item}
use Rattle.mh_tabfile.proofs.writing.write_items.Given as goal

abbrev pub invariant-loop-item : goal.invariant-loop-item
invariant-loop-item g l = record {
  rest : l.text.items ++ lines_written (map item_line (map (raw_item l.grammar) (drop l.item-index l.items))) ≡ l.initial.text.items ++ lines_written (map item_line (map (raw_item l.grammar) l.items));
}
