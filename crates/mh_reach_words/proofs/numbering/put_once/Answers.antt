use Rattle.mh_reach_words.proofs.IsNumberedUpTo.{puts_once}
use Rattle.mh_reach_words.proofs.numbering.put_once.Goals as goal

pub returns : goal.returns
returns c = puts_once c.args.distinct.now.keys c.insert.new.self.keys c.args.made c.in_ok-insert.ensures.keys
