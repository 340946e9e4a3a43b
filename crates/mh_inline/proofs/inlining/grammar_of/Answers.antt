use Rattle.mh_inline.proofs.inlining.grammar_of.Goals as goal

pub grammar_by-requires-clause-numbers : goal.grammar_by-requires-clause-numbers
grammar_by-requires-clause-numbers c = rw c.deref.ensures.value (rw c.as_slice.ensures at c.in_ok-numbers.ensures)
