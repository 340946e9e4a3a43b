use Rattle.mh_update.proofs.UpdatedAgain.{updated_once, updated_again}
use Rattle.mh_update.proofs.laws.updated_again.Goals as goal

pub returns-clause-once : goal.returns-clause-once
returns-clause-once g c expected = updated_once expected c.args.grammar.now c.args.automaton.now c.args.table.now

pub returns-clause-again : goal.returns-clause-again
returns-clause-again g c names expected = updated_again expected c.args.grammar.now c.args.automaton.now c.args.table.now c.table.ensures.facts.facts names
