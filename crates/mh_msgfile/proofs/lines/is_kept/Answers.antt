use Rattle.std.proofs.Common.{rules}
use Rattle.mh_msgfile.proofs.lines.is_kept.Goals as goal

pub returns : goal.returns
returns c = search rules
