use Rattle.std.proofs.Common.{arith}
use Rattle.mh_tables_core.proofs.IsPath.{IsRunStack-in_range}
use Rattle.mh_run.proofs.reductions.next_choice.Goals as goal

pub choose-requires-clause-state : goal.choose-requires-clause-state
choose-requires-clause-state c =
    rw c.table.ensures.table (let begun = c.requires.run.path.not_empty in IsRunStack-in_range c.args.table.now c.table.ensures.facts.facts c.args.stack.now c.requires.run _ (omega arith))
