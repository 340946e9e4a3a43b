use Rattle.mh_sets.proofs.TokenSetCalls.{first_token, first_end, first_none}
use Rattle.mh_sets.proofs.token_set.TokenSet.first.Goals as goal

pub returns-in-Some : goal.returns-in-Some
returns-in-Some g c = let h = c.in-Some.ensures.some in first_token c.self.inside.words c.self.inside.end c.args.self.now c.self.view_is c.in-Some.token h.1 h.2

pub returns-in-None : goal.returns-in-None
returns-in-None g c = first_end c.self.inside.words c.self.inside.end c.args.self.now c.self.view_is c.in-None.ensures.empty c.if-self.true

pub returns-in-None-2 : goal.returns-in-None-2
returns-in-None-2 g c = first_none c.self.inside.words c.self.inside.end c.args.self.now c.self.view_is c.in-None.ensures.empty c.if-self.false
