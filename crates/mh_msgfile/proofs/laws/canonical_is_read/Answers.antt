use Rattle.mh_msgfile.proofs.CanonicalLine.{canonical_line}
use Rattle.mh_msgfile.proofs.laws.canonical_is_read.Goals as goal

pub returns : goal.returns
returns c = canonical_line c.args.grammar.now
