use Rattle.std.proofs.Common.{rules}
use Rattle.mh_front.proofs.texts.expand_line.Goals as goal

pub returns-in-Arity : goal.returns-in-Arity
returns-in-Arity c = search rules
