use Rattle.mh_msgfile.proofs.IsLineOf.{spaced_line}
use Rattle.mh_msgfile.proofs.laws.spaced_is_read.Goals as goal

pub returns : goal.returns
returns c = spaced_line c.args.grammar.now
