use Rattle.std.proofs.Common.{sym}
use Rattle.mh_tables_core.specs.Halting.{look_list}
use Rattle.mh_tables.proofs.ReducedWithin.{reduces_next}
use Rattle.mh_tables.proofs.relative_runs.next_reduction.Goals as goal

pub returns-in-Reduce : goal.returns-in-Reduce
returns-in-Reduce c = reduces_next c.args.table.now c.facts.ensures (look_list c.args.look) c.args.stack.now c.in-Reduce.production (rw c.top_of.ensures at (sym c.in-Reduce.ensures))
