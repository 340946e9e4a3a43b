use Rattle.mh_front.proofs.GrammarUnique.{one_grammar}
use Rattle.mh_front.proofs.laws.is_one_grammar.Goals as goal

pub returns : goal.returns
returns c = one_grammar c.args.prelude c.args.modules.now c.args.left.now c.args.right.now c.requires.left c.requires.right
