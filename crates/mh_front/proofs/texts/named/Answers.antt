use Rattle.std.proofs.Common.{rules}
use Rattle.mh_front.proofs.texts.named.Goals as goal

pub returns : goal.returns
returns c = search rules
