use Rattle.mh_grammar.specs.Plain.{plain_of}
use Rattle.mh_items.proofs.AreAddedItems.{NumbersUpto}
use Rattle.mh_items.proofs.added.added_productions.Given as goal

abbrev pub invariant-loop-n : goal.invariant-loop-n
invariant-loop-n _ l = NumbersUpto (plain_of l.grammar) l.set l.numbers.items l.n-index
