use Rattle.mh_validate_valid.proofs.ValidIsAutomaton.{automaton_of, resolved_of}
use Rattle.mh_validate_valid.proofs.laws.valid_is_automaton.Goals as goal

pub returns-clause-automaton : goal.returns-clause-automaton
returns-clause-automaton c = λ a parts v. automaton_of c.args.grammar.now c.args.raw.now c.requires a parts v

pub returns-clause-resolved : goal.returns-clause-resolved
returns-clause-resolved c = λ a parts v. resolved_of c.args.grammar.now c.args.raw.now a parts v
