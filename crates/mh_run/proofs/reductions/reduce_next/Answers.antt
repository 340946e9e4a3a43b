use Rattle.mh_tables_core.specs.Halting.{look_list}
use Rattle.mh_tables_core.proofs.Reductions.{reduces_from_move}
use Rattle.mh_run.proofs.ReductionsOfRun.{can_reduce}
use Rattle.mh_run.proofs.reductions.reduce_next.Goals as goal

pub reduce_on-requires : goal.reduce_on-requires
reduce_on-requires c =
    rw c.table.ensures.table
    (can_reduce c.args.table.now c.table.ensures.facts.facts c.args.stack.now.items c.requires.run c.args.production
    (reduces_from_move c.args.table.now _ (look_list c.args.look) c.args.production c.requires.next))
