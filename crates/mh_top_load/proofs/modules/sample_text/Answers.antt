use Rattle.mh_top_load.proofs.SampleModules.{text_short}
use Rattle.mh_top_load.proofs.modules.sample_text.Goals as goal

pub returns-clause-short : goal.returns-clause-short
returns-clause-short c = text_short c.args.number c.sample_grammar.result c.sample_grammar.ensures
