use Rattle.mh_sets.proofs.TokenSetCalls.{empty_is}
use Rattle.mh_sets.proofs.token_set.TokenSet.empty.Goals as goal

pub returns : goal.returns
returns g c = empty_is g.row.W c.requires
