use Rattle.mh_grammar.specs.Plain.{plain_of}
use Rattle.mh_items_kernels.proofs.IsMove.{MovedSoFar}
use Rattle.mh_items.proofs.moving.moved.Given as goal

abbrev pub invariant-loop-item : goal.invariant-loop-item
invariant-loop-item g l = MovedSoFar (plain_of l.grammar) l.symbol l.closed.items l.items.items l.item-index
