use Rattle.mh_reach_spots.proofs.SpotInvariant.{spots_begin}
use Rattle.mh_reach_spots.proofs.arriving.arrive_by.Goals as goal

pub arrive_all-requires-clause-before : goal.arrive_all-requires-clause-before
arrive_all-requires-clause-before c =
    let g = c.requires.gotos in
    record {
      found = g;
      invariant = rw c.new.ensures (spots_begin c.args.table.now c.facts.ensures c.args.classes.now c.requires.classes g.gotos c.args.book c.rising.ensures c.in_ok-queue.queue.buckets.items c.in_ok-queue.ensures);
      below = c.requires.below;
    }

pub returns-in-Ok : goal.returns-in-Ok
returns-in-Ok c = rw c.spots_in.ensures c.in-Ok.ensures
