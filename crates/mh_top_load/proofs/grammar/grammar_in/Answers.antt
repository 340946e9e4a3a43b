use Rattle.mh_front.proofs.GrammarUnique.{has_start}
use Rattle.mh_top_load.proofs.AreNamesApart.{names_apart}
use Rattle.mh_top_load.proofs.HasFileNames.{has_file_names}
use Rattle.mh_top_load.proofs.IsGrammarFault.{refused_so}
use Rattle.mh_top_load.proofs.grammar.grammar_in.Goals as goal

pub returns-in-Err-clause-grammar : goal.returns-in-Err-clause-grammar
returns-in-Err-clause-grammar c = refused_so c.args.prelude c.args.modules.items c.in-Err.fault c.stop_of-stop.result c.in-Err.ensures.fault c.stop_of-stop.ensures

pub returns-in-Ok-clause-distinct_names : goal.returns-in-Ok-clause-distinct_names
returns-in-Ok-clause-distinct_names c = names_apart c.args.prelude c.args.modules.items c.in-Ok.grammar c.requires.capitals c.in-Ok.ensures.grammar

pub returns-in-Ok-clause-names : goal.returns-in-Ok-clause-names
returns-in-Ok-clause-names c = has_file_names c.args.prelude c.args.modules.items c.in-Ok.grammar c.requires.capitals c.requires.words c.in-Ok.ensures.grammar

pub returns-in-Ok-clause-grammar : goal.returns-in-Ok-clause-grammar
returns-in-Ok-clause-grammar c = c.in-Ok.ensures.grammar

pub returns-in-Ok-clause-start : goal.returns-in-Ok-clause-start
returns-in-Ok-clause-start c = has_start c.args.prelude c.args.modules.items c.in-Ok.grammar c.in-Ok.ensures.grammar
