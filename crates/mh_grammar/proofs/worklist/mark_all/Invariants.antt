use Rattle.std.proofs.Common.{◌≡◌, length}
use Rattle.mh_grammar.specs.Marked.{AreSound}
use Rattle.mh_grammar.specs.code.Worklist.{load}
use Rattle.mh_grammar.proofs.worklist.mark_all.Given as goal

abbrev pub invariant-loop-place : goal.invariant-loop-place
invariant-loop-place l = record {
  len : length l.marks ≡ length l.grammar.nonterminals;
  sound : AreSound l.tokens l.grammar.productions l.fn.marks → AreSound l.tokens l.grammar.productions l.marks;
}

abbrev pub decreases-loop-place : goal.decreases-loop-place
decreases-loop-place l = load l.waiting
