use Rattle.std.proofs.Common.{arith}
use Rattle.std.proofs.lemmas.Grind.{common_steps}
use Rattle.mh_msgfile.proofs.lexicon.only_start.Goals as goal

pub returns-then-len-eq1 : goal.returns-then-len-eq1
returns-then-len-eq1 c = grind (arith, common_steps)

pub returns-else-len-eq1 : goal.returns-else-len-eq1
returns-else-len-eq1 c = grind (arith, common_steps)
