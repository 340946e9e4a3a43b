use Rattle.mh_sample.proofs.Treats.{treats_by_token}
use Rattle.mh_sample.proofs.writing.write_token.Goals as goal

pub returns-clause-treats : goal.returns-clause-treats
returns-clause-treats c = treats_by_token c.args.guide.now c.args.token c.args.writing.now c.push.new.self.items c.in_ok-push.ensures.items
