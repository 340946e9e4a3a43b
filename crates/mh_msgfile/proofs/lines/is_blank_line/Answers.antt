use Rattle.std.proofs.Common.{rules}
use Rattle.mh_msgfile.proofs.lines.is_blank_line.Goals as goal

pub returns : goal.returns
returns c = search rules
