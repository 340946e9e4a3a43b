use Rattle.mh_sets.proofs.TokenSetCalls.{meets_is}
use Rattle.mh_sets.proofs.token_set.TokenSet.meets.Goals as goal

pub returns : goal.returns
returns g c = meets_is c.self.inside.words c.self.inside.end c.args.self.now c.self.view_is c.other.inside.words c.other.inside.end c.args.other.now c.other.view_is c.share.result c.share.ensures
