use Rattle.std.specs.Prelude.{Err}
use Rattle.std.proofs.Common.{ap}
use Rattle.mh_top_prepare.specs.code.BuiltSource.{source_in}
use Rattle.mh_top_prepare.proofs.StagesToTable.{automaton_kept, automaton_stops, resolved_of_built, no_automaton_stops}
use Rattle.mh_top_prepare.proofs.tabled.built_table.Goals as goal

pub returns-in-Ok-clause-stage : goal.returns-in-Ok-clause-stage
returns-in-Ok-clause-stage g c = resolved_of_built c.args.mode c.args.grammar.now c.in-Ok.automaton c.with_table.result c.in-Ok.ensures.value c.with_table.ensures

pub returns-in-Ok-clause-automaton : goal.returns-in-Ok-clause-automaton
returns-in-Ok-clause-automaton g c = automaton_kept c.args.mode c.args.grammar.now c.in-Ok.automaton c.with_table.result c.in-Ok.ensures.automaton c.with_table.ensures

pub returns-in-Err-clause-stage : goal.returns-in-Err-clause-stage
returns-in-Err-clause-stage g c =
    let source = source_in c.args.mode in
    automaton_stops source c.args.grammar.now c.no_automaton.result (no_automaton_stops source c.args.grammar.now c.in-Err.fault c.no_automaton.result (λ same. c.in-Err.ensures.exceeds (ap Err same)) c.no_automaton.ensures)
