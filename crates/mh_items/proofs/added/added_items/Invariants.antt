use Rattle.mh_grammar.specs.Plain.{plain_of}
use Rattle.mh_items.proofs.AreAddedItems.{AddedSoFar}
use Rattle.mh_items.proofs.added.added_items.Given as goal

abbrev pub invariant-loop-number : goal.invariant-loop-number
invariant-loop-number _ l = AddedSoFar (plain_of l.grammar) l.set l.number-items l.items.items l.number-index
