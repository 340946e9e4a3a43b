use Rattle.mh_grammar.specs.Plain.{plain_of}
use Rattle.mh_pager.proofs.JoinsMoveAt.{if_both}
use Rattle.mh_pager.proofs.IsMerged.{merged_automaton, merged_paths, merged_conflicts, merged_any_conflicts}
use Rattle.mh_pager.proofs.merging.merged.Goals as goal

pub returns-clause-automaton : goal.returns-clause-automaton
returns-clause-automaton g c = if_both c.merged_over.result c.merged_over.ensures.ok c.merged_over.ensures.few (merged_automaton (plain_of c.args.grammar.now))

pub returns-clause-paths : goal.returns-clause-paths
returns-clause-paths g c = if_both c.merged_over.result c.merged_over.ensures.ok c.merged_over.ensures.few (merged_paths (plain_of c.args.grammar.now))

pub returns-clause-clashes : goal.returns-clause-clashes
returns-clause-clashes g c = if_both c.merged_over.result c.merged_over.ensures.ok c.merged_over.ensures.few (merged_conflicts (plain_of c.args.grammar.now))

pub returns-clause-faults : goal.returns-clause-faults
returns-clause-faults g c = if_both c.merged_over.result c.merged_over.ensures.ok c.merged_over.ensures.few (merged_any_conflicts (plain_of c.args.grammar.now))
