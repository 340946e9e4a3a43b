use Rattle.mh_reach_rests.proofs.begins.begin.Goals as goal

pub returns : goal.returns
returns c = record { queue = c.in_ok-queue.ensures; rests = c.in_ok-rests.ensures.rows; gotos = c.in_ok-gotos.ensures.rows; no_rests = c.in_ok-rests.ensures.none; no_gotos = c.in_ok-gotos.ensures.none }
