use Rattle.std.proofs.Common.{◌≡◌, ◌++◌, drop}
use Rattle.mh_report_notation.specs.ItemTexts.{item_lines}
use Rattle.mh_report_notation.proofs.items.write_item_lines.Given as goal

abbrev pub invariant-loop-item : goal.invariant-loop-item
invariant-loop-item g l = record {
  rest : l.text.items ++ item_lines l.front l.grammar (drop l.item-index l.items) ≡ l.initial.text.items ++ item_lines l.front l.grammar l.items;
}
