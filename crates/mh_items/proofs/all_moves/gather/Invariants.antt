use Rattle.mh_grammar.specs.Plain.{plain_of}
use Rattle.mh_items.proofs.AreRowsOfMoves.{GatheredSoFar}
use Rattle.mh_items.proofs.all_moves.gather.Given as goal

abbrev pub invariant-loop-item : goal.invariant-loop-item
invariant-loop-item g l = GatheredSoFar (plain_of l.grammar) l.items l.item-index l.rows
