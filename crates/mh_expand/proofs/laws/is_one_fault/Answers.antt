use Rattle.mh_expand.proofs.UniqueOrder.{fault_unique}
use Rattle.mh_expand.proofs.laws.is_one_fault.Goals as goal

pub returns : goal.returns
returns c = fault_unique c.args.joined.now c.args.left.now c.args.right.now c.requires.left c.requires.right
