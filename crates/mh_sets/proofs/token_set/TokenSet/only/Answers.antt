use Rattle.mh_sets.proofs.LooksFrom.{looks_single}
use Rattle.mh_sets.proofs.token_set.TokenSet.only.Goals as goal

pub returns : goal.returns
returns g c = looks_single c.empty-set.result c.insert.new.self c.args.look c.empty-set.ensures c.insert.ensures.set.rising c.insert.ensures.members
