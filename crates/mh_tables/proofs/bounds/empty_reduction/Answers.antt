use Rattle.std.proofs.Common.{sym}
use Rattle.mh_tables_core.specs.Halting.{look_list}
use Rattle.mh_tables_core.proofs.Reductions.{reduces_from_move}
use Rattle.mh_tables.proofs.bounds.empty_reduction.Goals as goal

pub length_of-requires : goal.length_of-requires
length_of-requires c =
    let range = c.facts.ensures.ordinary c.args.state c.in-Reduce.production (reduces_from_move c.args.table.now c.args.state (look_list c.args.look) c.in-Reduce.production (sym c.in-Reduce.ensures)) in
    range.1

pub returns-then-length_of-eq0 : goal.returns-then-length_of-eq0
returns-then-length_of-eq0 c =
    c.facts.ensures.ordinary c.args.state c.in-Reduce.production (reduces_from_move c.args.table.now c.args.state (look_list c.args.look) c.in-Reduce.production (sym c.in-Reduce.ensures))
