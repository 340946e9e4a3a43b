use Rattle.std.proofs.Common.{length}
use Rattle.mh_items.proofs.AreMoves.{TakenSoFar}
use Rattle.mh_items.proofs.all_moves.taken.Given as goal

abbrev pub invariant-loop-place : goal.invariant-loop-place
invariant-loop-place g l = TakenSoFar (length l.grammar.tokens) l.fn.rows l.place-items l.place-index l.rows l.moves.items
