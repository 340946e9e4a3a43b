use Rattle.mh_tables_core.proofs.IsTreeOfRead.{accepted_tree}
use Rattle.mh_run_exact.proofs.AcceptedSentence.{accepted_sentence}
use Rattle.mh_run_exact.proofs.exactness.accepts_with_tree.Goals as goal

pub returns-clause-tree : goal.returns-clause-tree
returns-clause-tree c = accepted_tree c.args.table.now c.facts.ensures

pub returns-clause-sentence : goal.returns-clause-sentence
returns-clause-sentence c = accepted_sentence c.args.table.now c.facts.ensures
