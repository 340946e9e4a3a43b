use Rattle.mh_inline.proofs.UniqueGrammar.{one_fault}
use Rattle.mh_inline.proofs.laws.is_one_fault.Goals as goal

pub returns : goal.returns
returns c = one_fault c.args.expanded.now c.args.left.now c.args.right.now c.requires.left c.requires.right
