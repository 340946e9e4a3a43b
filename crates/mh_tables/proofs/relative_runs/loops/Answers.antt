use Rattle.mh_tables.proofs.StopsWithoutDefault.{loops_or, tried_or}
use Rattle.mh_tables.proofs.relative_runs.loops.Goals as goal

pub returns-clause-loops : goal.returns-clause-loops
returns-clause-loops c =
    loops_or c.args.table.now c.args.below c.args.state c.args.look c.reduced_within.new.stack.items c.in_ok-stopped.stopped c.is_none.result c.is_none.ensures c.in_ok-stopped.ensures.value

pub returns-clause-tried : goal.returns-clause-tried
returns-clause-tried c =
    tried_or c.args.table.now c.args.below c.args.state c.args.look c.reduced_within.new.stack.items c.in_ok-stopped.stopped c.is_none.result c.is_none.ensures c.in_ok-stopped.ensures.value
