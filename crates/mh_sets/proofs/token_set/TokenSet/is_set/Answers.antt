use Rattle.mh_sets.proofs.TokenSetCalls.{set_is}
use Rattle.mh_sets.proofs.token_set.TokenSet.is_set.Goals as goal

pub returns : goal.returns
returns g c = set_is c.self.inside.words c.self.inside.end c.args.self.now c.self.view_is g.row.W c.self.invariant
