use Rattle.mh_update.proofs.UpdatedOrUnfit.{unfit_once, updated_fits, updated_or_unfit}
use Rattle.mh_update.proofs.laws.updated_or_unfit.Goals as goal

pub returns-clause-fault : goal.returns-clause-fault
returns-clause-fault g c = unfit_once c.args.table.now

pub returns-clause-not_both : goal.returns-clause-not_both
returns-clause-not_both g c expected = updated_fits c.args.table.now expected c.args.grammar.now c.args.automaton.now

pub returns-clause-either : goal.returns-clause-either
returns-clause-either g c automaton states expected = updated_or_unfit c.args.table.now expected c.args.grammar.now c.args.automaton.now c.table-facts.ensures.facts automaton states
