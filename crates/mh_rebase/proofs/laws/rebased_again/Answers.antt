use Rattle.mh_rebase.proofs.RebasedAgain.{repeated}
use Rattle.mh_rebase.proofs.laws.rebased_again.Goals as goal

pub returns : goal.returns
returns g c expected = repeated expected c.args.grammar.now c.args.automaton.now c.args.table.now c.table.ensures.facts.facts c.requires
