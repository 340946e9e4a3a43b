use Rattle.mh_expand.proofs.UniqueOrder.{expanded_unique}
use Rattle.mh_expand.proofs.laws.is_one_expansion.Goals as goal

pub returns : goal.returns
returns c = expanded_unique c.args.joined.now c.args.left.now c.args.right.now c.requires.left c.requires.right
