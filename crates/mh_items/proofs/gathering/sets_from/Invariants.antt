use Rattle.mh_grammar.specs.Plain.{plain_of}
use Rattle.mh_items.proofs.AreFirsts.{FirstsSoFar}
use Rattle.mh_items.proofs.gathering.sets_from.Given as goal

abbrev pub invariant-loop-row : goal.invariant-loop-row
invariant-loop-row _ l = FirstsSoFar (plain_of l.grammar) l.made.items l.row-index
