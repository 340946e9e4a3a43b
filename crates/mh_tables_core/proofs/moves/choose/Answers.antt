use Rattle.std.proofs.Common.{sym, ap, ◌∙◌}
use Rattle.mh_tables_core.specs.Run.{move_by_default, run_move_of, move_of_next}
use Rattle.mh_tables_core.specs.Halting.{look_list}
use Rattle.mh_tables_core.proofs.moves.choose.Goals as goal

pub returns-in-Some-Accept : goal.returns-in-Some-Accept
unfolding run_move_of
returns-in-Some-Accept c = ap (λ f. move_by_default f (move_of_next c.args.table.now c.args.state (look_list c.args.look))) ((rw c.in-Some-Accept.field-0-is at (sym c.in-Some-Accept.is)) ∙ c.fallback.ensures)
