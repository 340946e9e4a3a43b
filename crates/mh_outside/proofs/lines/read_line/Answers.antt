use Rattle.mh_outside.proofs.FindsLine.{finds_line}
use Rattle.mh_outside.proofs.lines.read_line.Goals as goal

pub returns-clause-found : goal.returns-clause-found
returns-clause-found g c = finds_line _ _ _ _ c.take_line.ensures.bytes
