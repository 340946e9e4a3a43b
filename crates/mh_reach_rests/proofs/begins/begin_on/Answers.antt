use Rattle.std.proofs.Common.{◌≡◌, [], ◌∷◌, sym}
use Rattle.std.proofs.lemmas.Result.{on_ok_weaker}
use Rattle.mh_tables_core.specs.Run.{Reduces, run_move_of}
use Rattle.mh_tables_core.proofs.Reductions.{reduces_from_move}
use Rattle.mh_reach_rests.proofs.EndWords.{end_gains}
use Rattle.mh_reach_rests.proofs.RestRanges.{end_range}
use Rattle.mh_reach_rests.proofs.begins.begin_on.Goals as goal

pub length_of-requires : goal.length_of-requires
length_of-requires c =
    let move : run_move_of c.args.table.now c.args.state (c.args.token ∷ []) ≡ Reduces c.in-Reduce.production = sym (rw c.in-Reduce.is at c.choose.ensures) in
    (c.facts.ensures.ordinary c.args.state c.in-Reduce.production (reduces_from_move c.args.table.now c.args.state (c.args.token ∷ []) c.in-Reduce.production move)).1

pub conclude-requires-clause-range : goal.conclude-requires-clause-range
conclude-requires-clause-range c =
    let move : run_move_of c.args.table.now c.args.state (c.args.token ∷ []) ≡ Reduces c.in-Reduce.production = sym (rw c.in-Reduce.is at c.choose.ensures) in
    rw (c.length_of.ensures, c.class_of-next.ensures.representative) (end_range c.args.table.now c.facts.ensures c.args.classes.now c.requires.classes c.args.state c.in-Reduce.production c.args.token c.requires.state c.requires.token move)

pub returns-in-Reduce : goal.returns-in-Reduce
returns-in-Reduce c =
    let move : run_move_of c.args.table.now c.args.state (c.args.token ∷ []) ≡ Reduces c.in-Reduce.production = sym (rw c.in-Reduce.is at c.choose.ensures) in
    on_ok_weaker c.conclude.result (end_gains c.args.table.now c.args.classes.now c.args.state c.args.token c.in-Reduce.production move c.args.queue.now.buckets.items c.conclude.new.queue.buckets.items) (rw (c.length_of.ensures, c.class_of-next.ensures.representative) at c.conclude.ensures)
