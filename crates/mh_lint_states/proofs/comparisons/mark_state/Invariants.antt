use Rattle.std.proofs.Common.{take, length}
use Rattle.mh_grammar.specs.Plain.{plain_of, production_count}
use Rattle.mh_lint_states.specs.code.ComparedPairs.{HasFlags, ItemsCompare, MarksPairs}
use Rattle.mh_lint_states.proofs.comparisons.mark_state.Given as goal

abbrev pub invariant-loop-item : goal.invariant-loop-item
invariant-loop-item g l = record {
  pairs : MarksPairs (ItemsCompare l.grammar l.shifts (take l.item-index l.items)) l.fn.compared l.compared;
  flags : HasFlags (length l.grammar.tokens) (production_count (plain_of l.grammar)) l.compared;
}
