use Rattle.std.proofs.lemmas.Result.{IfOk-weaker}
use Rattle.mh_validate_valid.proofs.ValidIsAutomaton.{automaton_of}
use Rattle.mh_validate.proofs.Outcomes.{outcome_ok, outcome_exact, outcome_fault}
use Rattle.mh_validate.proofs.validation.validate.Goals as goal

pub returns-clause-valid : goal.returns-clause-valid
returns-clause-valid g c = IfOk-weaker c.validation_of.result _ _ (λ v h. h.valid) (outcome_ok c.args.grammar.now c.args.raw.now c.validation_of.result c.validation_of.ensures)

pub returns-clause-automaton : goal.returns-clause-automaton
returns-clause-automaton g c = IfOk-weaker c.validation_of.result _ _ (λ v h. automaton_of c.args.grammar.now c.args.raw.now c.requires.input.small v.automaton v.table.states h.valid) (outcome_ok c.args.grammar.now c.args.raw.now c.validation_of.result c.validation_of.ensures)

pub returns-clause-table : goal.returns-clause-table
returns-clause-table g c = IfOk-weaker c.validation_of.result _ _ (λ v h. h.table) (outcome_ok c.args.grammar.now c.args.raw.now c.validation_of.result c.validation_of.ensures)

pub returns-clause-conflicts : goal.returns-clause-conflicts
returns-clause-conflicts g c = IfOk-weaker c.validation_of.result _ _ (λ v h. h.conflicts) (outcome_ok c.args.grammar.now c.args.raw.now c.validation_of.result c.validation_of.ensures)

pub returns-clause-mode : goal.returns-clause-mode
returns-clause-mode g c = IfOk-weaker c.validation_of.result _ _ (λ v h. h.mode) (outcome_ok c.args.grammar.now c.args.raw.now c.validation_of.result c.validation_of.ensures)

pub returns-clause-invalid : goal.returns-clause-invalid
returns-clause-invalid g c = outcome_fault c.args.grammar.now c.args.raw.now c.validation_of.result c.validation_of.ensures

pub returns-clause-exact : goal.returns-clause-exact
returns-clause-exact g c = outcome_exact c.args.grammar.now c.requires.input.distinct_names c.args.raw.now c.validation_of.result c.validation_of.ensures
