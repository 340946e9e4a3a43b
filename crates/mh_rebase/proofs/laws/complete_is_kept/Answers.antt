use Rattle.mh_rebase.proofs.CompleteIsKept.{complete_stays}
use Rattle.mh_rebase.proofs.laws.complete_is_kept.Goals as goal

pub returns : goal.returns
returns g c expected = complete_stays expected c.args.grammar.now c.args.automaton.now c.args.table.now
