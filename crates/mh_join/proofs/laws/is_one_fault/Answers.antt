use Rattle.mh_join.proofs.JoinedReady.{one_fault}
use Rattle.mh_join.proofs.laws.is_one_fault.Goals as goal

pub returns : goal.returns
returns c = one_fault c.args.prelude c.args.modules.now c.args.left.now c.args.right.now c.requires.left c.requires.right
