use Rattle.mh_engine.specs.declared.sentence.TreeOutcome.TheVariants as outcomes
use Rattle.mh_engine.proofs.OutcomeIsEnding.{run_ending}
use Rattle.mh_engine.proofs.sentence.run_with_trees.Goals as goal

pub returns-in-Ok : goal.returns-in-Ok
returns-in-Ok c = run_ending c.args.table.now c.table-rows.ensures.facts.facts c.args.start c.args.sentence.now c.requires.start c.in-Ok.outcome c.in-Ok.ensures.reached

pub returns-in-Err-TooDeep : goal.returns-in-Err-TooDeep
returns-in-Err-TooDeep c =
    run_ending c.args.table.now c.table-rows.ensures.facts.facts c.args.start c.args.sentence.now c.requires.start outcomes.TooDeep (c.in-Err-TooDeep.ensures.deep c.in-Err-TooDeep.field-0-is)
