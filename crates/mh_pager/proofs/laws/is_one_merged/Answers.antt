use Rattle.mh_grammar.specs.Plain.{plain_of}
use Rattle.mh_pager.proofs.OneMerged.{merged_one}
use Rattle.mh_pager.proofs.laws.is_one_merged.Goals as goal

pub returns : goal.returns
returns g c = merged_one (plain_of c.args.grammar.now) c.args.left.now c.args.right.now c.requires.left c.requires.right
