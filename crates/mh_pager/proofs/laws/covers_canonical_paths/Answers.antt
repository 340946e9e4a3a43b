use Rattle.mh_grammar.specs.Plain.{plain_of}
use Rattle.mh_pager.proofs.CoversPaths.{covers_paths}
use Rattle.mh_pager.proofs.laws.covers_canonical_paths.Goals as goal

pub returns : goal.returns
returns g c = covers_paths (plain_of c.args.grammar.now) c.args.automaton.now c.requires
