use Rattle.mh_reach_rests.proofs.ClosedRests.{find_least_gotos}
use Rattle.mh_reach_rests.proofs.laws.gotos_are_found.Goals as goal

pub returns : goal.returns
returns c = find_least_gotos c.args.table.now c.facts.ensures
