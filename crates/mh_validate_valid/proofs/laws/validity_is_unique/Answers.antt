use Rattle.mh_validate_valid.proofs.ValidityUnique.{automaton_is_one, test_is_one}
use Rattle.mh_validate_valid.proofs.laws.validity_is_unique.Goals as goal

pub returns-clause-automaton : goal.returns-clause-automaton
returns-clause-automaton c = λ a b ps qs v w. automaton_is_one c.args.grammar.now c.requires c.args.raw.now a b ps qs v w

pub returns-clause-test : goal.returns-clause-test
returns-clause-test c = λ s t r q i j. test_is_one c.args.grammar.now c.requires c.args.raw.now s t r q i j
