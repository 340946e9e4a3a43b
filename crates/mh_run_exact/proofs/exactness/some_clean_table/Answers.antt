use Rattle.mh_resolve_cells.specs.declared.kinds.Mode.TheVariants.{Canonical}
use Rattle.mh_run_exact.specs.Example.{one_grammar, one_automaton, one_table}
use Rattle.mh_run_exact.proofs.Example.{example_meets_premises}
use Rattle.mh_run_exact.proofs.exactness.some_clean_table.Goals as goal

pub returns : goal.returns
returns c = (one_grammar, one_automaton, Canonical, one_table, example_meets_premises)
