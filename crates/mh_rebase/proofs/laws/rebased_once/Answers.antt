use Rattle.mh_rebase.proofs.RebasedUnique.{rebased_once}
use Rattle.mh_rebase.proofs.laws.rebased_once.Goals as goal

pub returns : goal.returns
returns g c expected = rebased_once expected c.args.grammar.now c.args.automaton.now c.args.table.now
