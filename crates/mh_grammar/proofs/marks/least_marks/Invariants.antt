use Rattle.std.proofs.Common.{◌≡◌, ◌+◌, false, not, length, count_by, vec_len, if◌then◌else◌}
use Rattle.mh_grammar.specs.Marked.{AreSound, AreClosed}
use Rattle.mh_grammar.proofs.marks.least_marks.Given as goal

abbrev pub invariant-loop-changed : goal.invariant-loop-changed
invariant-loop-changed l = record {
  len : vec_len l.marks ≡ length l.grammar.nonterminals;
  sound : AreSound l.tokens l.grammar.productions l.marks.items;
  closed : l.changed ≡ false → AreClosed l.tokens l.grammar.productions l.marks.items;
}

abbrev pub decreases-loop-changed : goal.decreases-loop-changed
decreases-loop-changed l = count_by not l.marks.items + (if l.changed then 1 else 0)
