use Rattle.mh_tables_core.specs.Halting.{look_list}
use Rattle.mh_tables_core.proofs.Reductions.{reduces_from_move}
use Rattle.mh_run.proofs.reductions.observe_next.Goals as goal

pub length_of-requires : goal.length_of-requires
length_of-requires g c =
    rw c.table-rows.ensures.table
    ((c.table-rows.ensures.facts.facts.ordinary _ c.args.production (reduces_from_move c.args.table.now _ (look_list c.args.look) c.args.production c.requires.next)).1)
