use Rattle.mh_inline.proofs.UniqueGrammar.{one_grammar}
use Rattle.mh_inline.proofs.laws.is_one_grammar.Goals as goal

pub returns : goal.returns
returns c = one_grammar c.args.expanded.now c.args.left.now c.args.right.now c.requires.left c.requires.right
