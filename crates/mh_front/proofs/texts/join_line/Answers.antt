use Rattle.std.proofs.Common.{rules}
use Rattle.mh_front.proofs.texts.join_line.Goals as goal

pub returns-in-Undefined : goal.returns-in-Undefined
returns-in-Undefined c = search rules
