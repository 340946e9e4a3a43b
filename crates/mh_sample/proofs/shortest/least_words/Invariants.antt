use Rattle.std.proofs.Common.{◌≡◌, ◌+◌, ◌^◌, false, vec_len, length, if◌then◌else◌}
use Rattle.mh_grammar.specs.Plain.{plain_of}
use Rattle.mh_sample.specs.code.Chains.{rank_sum, AreClosed, AreDerived}
use Rattle.mh_sample.proofs.shortest.least_words.Given as goal

abbrev pub invariant-loop-improved : goal.invariant-loop-improved
invariant-loop-improved l = record {
  len : vec_len l.words ≡ length l.grammar.nonterminals;
  derived : AreDerived (plain_of l.grammar) l.words.items;
  closed : l.improved ≡ false → AreClosed l.grammar.productions l.words.items;
}

abbrev pub decreases-loop-improved : goal.decreases-loop-improved
decreases-loop-improved l = rank_sum (2 ^ 16) l.words.items + (if l.improved then 1 else 0)
