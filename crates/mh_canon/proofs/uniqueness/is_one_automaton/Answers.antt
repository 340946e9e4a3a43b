use Rattle.mh_grammar.specs.Plain.{plain_of}
use Rattle.mh_canon.proofs.OneCanonical.{canonical_unique}
use Rattle.mh_canon.proofs.uniqueness.is_one_automaton.Goals as goal

pub returns : goal.returns
returns _ c = canonical_unique (plain_of c.args.grammar.now) c.args.left.now c.args.right.now c.requires.left c.requires.right
