use Rattle.mh_run_exact.proofs.ExactnessLaws.{tells_whole, tells_prefix, tells_one, tells_refused}
use Rattle.mh_run_exact.proofs.exactness.verdicts_are_exact.Goals as goal

pub returns-clause-accepted : goal.returns-clause-accepted
returns-clause-accepted g c = tells_whole c.args.grammar.now c.args.automaton.now c.args.mode c.args.table.now c.facts.ensures c.requires.automaton c.requires.table c.requires.no_conflicts

pub returns-clause-prefix : goal.returns-clause-prefix
returns-clause-prefix g c = tells_prefix c.args.grammar.now c.args.automaton.now c.args.mode c.args.table.now c.facts.ensures c.requires.automaton c.requires.table c.requires.no_conflicts

pub returns-clause-unique : goal.returns-clause-unique
returns-clause-unique g c = tells_one c.args.grammar.now c.args.automaton.now c.args.mode c.args.table.now c.facts.ensures c.requires.automaton c.requires.table c.requires.no_conflicts

pub returns-clause-refused : goal.returns-clause-refused
returns-clause-refused g c = tells_refused c.args.grammar.now c.args.automaton.now c.args.mode c.args.table.now c.facts.ensures c.requires.automaton c.requires.table c.requires.no_conflicts
