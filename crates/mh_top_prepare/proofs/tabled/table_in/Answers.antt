use Rattle.std.proofs.Common.{rules}
use Rattle.mh_top_prepare.specs.declared.sources.AutomatonSource.TheVariants.{File}
use Rattle.mh_top_prepare.proofs.StagesToTable.{automaton_kept, automaton_stops, valid_table}
use Rattle.mh_top_prepare.proofs.tabled.table_in.Goals as goal

pub with_valid-requires : goal.with_valid-requires
with_valid-requires g c = (search rules, (search rules, (c.requires.fits, (rw c.in-Ok.ensures.stage.mode c.in-Ok.ensures.stage.table, c.in-Ok.ensures.stage.conflicts))))

pub returns-in-Ok-clause-stage : goal.returns-in-Ok-clause-stage
returns-in-Ok-clause-stage g c =
    valid_table c.args.name.now c.args.raw.now c.args.grammar.now c.in-Ok.valid.automaton c.in-Ok.valid.table.states c.with_valid.result c.in-Ok.ensures.stage.valid (rw c.in-Ok.ensures.stage.mode at c.with_valid.ensures)

pub returns-in-Ok-clause-automaton : goal.returns-in-Ok-clause-automaton
returns-in-Ok-clause-automaton g c = automaton_kept c.args.raw.now.mode c.args.grammar.now c.in-Ok.valid.automaton c.with_valid.result c.in-Ok.ensures.automaton (rw c.in-Ok.ensures.stage.mode at c.with_valid.ensures)

pub returns-in-Err-clause-stage : goal.returns-in-Err-clause-stage
returns-in-Err-clause-stage g c = automaton_stops (File c.args.name.now c.args.raw.now) c.args.grammar.now c.in-Err.stop c.in-Err.ensures.stage
