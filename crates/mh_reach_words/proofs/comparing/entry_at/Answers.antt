use Rattle.mh_reach_words.proofs.LongerBook.{entry_found}
use Rattle.mh_reach_words.proofs.comparing.entry_at.Goals as goal

pub returns : goal.returns
returns c = entry_found c.args.entries.now c.args.number c.get.result c.if-number-eq0.false c.requires c.get.ensures
