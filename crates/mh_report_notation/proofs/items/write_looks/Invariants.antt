use Rattle.std.proofs.Common.{◌≡◌, ◌++◌}
use Rattle.mh_report_notation.specs.ItemTexts.{looks_after}
use Rattle.mh_report_notation.proofs.items.write_looks.Given as goal

abbrev pub invariant-loop-look : goal.invariant-loop-look
invariant-loop-look g l = record {
  can : (goal.iterator-loop-look g).can_next l.look-iterator;
  ends : (goal.iterator-loop-look g).is_finite l.look-iterator;
  rest : l.text.items ++ looks_after l.grammar l.look-iterator.left ≡ l.initial.text.items ++ looks_after l.grammar l.looks;
}
