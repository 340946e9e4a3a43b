use Rattle.mh_sets.proofs.TokenSetCalls.{none_left}
use Rattle.mh_sets.proofs.TakeFirst.{take_token, take_end}
use Rattle.mh_sets.proofs.token_set.TokenSet.take_first.Goals as goal

pub returns-in-Some : goal.returns-in-Some
returns-in-Some g c = let h = c.in-Some.ensures.some in take_token c.self.inside.words c.self.inside.end c.args.self.now c.self.view_is c.clear_bit.new.words c.in-Some.token h.1 h.2 c.clear_bit.ensures.bits

pub returns-in-None : goal.returns-in-None
returns-in-None g c = take_end c.self.inside.words c.self.inside.end c.args.self.now c.self.view_is c.in-None.ensures.empty c.if-self.true

pub returns-in-None-2 : goal.returns-in-None-2
returns-in-None-2 g c = let e = none_left c.self.inside.words c.self.inside.end c.args.self.now c.self.view_is c.in-None.ensures.empty c.if-self.false in (e, e)
