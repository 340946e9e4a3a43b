use Rattle.mh_sets.proofs.TokenSetCalls.{contains_token, contains_end}
use Rattle.mh_sets.proofs.token_set.TokenSet.contains.Goals as goal

pub returns-in-Token : goal.returns-in-Token
returns-in-Token g c = contains_token c.self.inside.words c.self.inside.end c.args.self.now c.self.view_is c.args.look c.in-Token.token c.has_bit.result c.in-Token.is (rw c.from.ensures at c.has_bit.ensures)

pub returns-in-End : goal.returns-in-End
returns-in-End g c = contains_end c.self.inside.words c.self.inside.end c.args.self.now c.self.view_is c.args.look c.in-End.is
