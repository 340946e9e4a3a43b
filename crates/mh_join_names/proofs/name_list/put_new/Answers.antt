use Rattle.mh_join_names.proofs.IsPositionMap.{placed_more}
use Rattle.mh_join_names.proofs.name_list.put_new.Goals as goal

pub returns-clause-placed : goal.returns-clause-placed
returns-clause-placed c =
    rw (c.in_ok-push.ensures.items, c.in_ok-clone.ensures.cases)
    (placed_more c.args.names.now.items c.args.places.now c.put_place.new.places c.args.name.now c.requires.new c.requires.placed (rw (c.len-place.ensures, c.args.names.now.ok.0) at c.in_default.ensures.placed))
