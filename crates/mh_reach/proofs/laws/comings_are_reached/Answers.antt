use Rattle.mh_reach.proofs.Coming.{comes_if_reached, reaches_if_comes}
use Rattle.mh_reach.proofs.laws.comings_are_reached.Goals as goal

pub returns : goal.returns
returns c i w s z start known = (λ h. reaches_if_comes c.args.table.now c.facts.ensures i w s z h, λ h. comes_if_reached c.args.table.now c.facts.ensures i w s z start known h)
