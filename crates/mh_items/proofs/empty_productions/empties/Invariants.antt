use Rattle.std.proofs.Common.{◌≡◌, ◌+◌, false, not, length, count_by, vec_len, if◌then◌else◌}
use Rattle.mh_items_kernels.specs.code.EmptyMarks.{AreMarksClosed}
use Rattle.mh_items.proofs.empty_productions.empties.Given as goal

abbrev pub invariant-loop-changed : goal.invariant-loop-changed
invariant-loop-changed l = record {
  len : vec_len l.marks ≡ length l.grammar.nonterminals;
  closed : l.changed ≡ false → AreMarksClosed l.grammar.productions l.marks.items;
}

abbrev pub decreases-loop-changed : goal.decreases-loop-changed
decreases-loop-changed l = count_by not l.marks.items + (if l.changed then 1 else 0)
