use Rattle.std.proofs.lemmas.Result.{IfOk-weaker}
use Rattle.mh_items.proofs.move_builder.MoveBuilder.moves.Goals as goal

pub returns-clause-moves : goal.returns-clause-moves
returns-clause-moves g c = IfOk-weaker c.moves.result _ _ (λ v are. record { closed = c.in_ok-closed.closed; valid = c.in_ok-closed.ensures.kernel; same = c.in_ok-closed.ensures.exact; are = are }) c.moves.ensures.moves

pub returns-clause-mover : goal.returns-clause-mover
returns-clause-mover g c = IfOk-weaker c.moves.result _ _ (λ v empty. record { closer = c.in_ok-closed.ensures.closer; rows = empty }) c.moves.ensures.empty
