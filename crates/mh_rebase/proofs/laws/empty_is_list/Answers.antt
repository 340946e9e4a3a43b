use Rattle.mh_rebase.proofs.RebasedAgain.{empty_is_list}
use Rattle.mh_rebase.proofs.laws.empty_is_list.Goals as goal

pub returns : goal.returns
returns g c expected = empty_is_list expected c.args.grammar.now c.args.automaton.now c.args.table.now
