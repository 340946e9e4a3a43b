use Rattle.mh_sample.proofs.SampleLineUnique.{line_once, some_line}
use Rattle.mh_sample.proofs.laws.sample_line_is_unique.Goals as goal

pub returns-clause-some : goal.returns-clause-some
returns-clause-some c = some_line c.args.table.now c.table-facts.ensures.facts

pub returns-clause-once : goal.returns-clause-once
returns-clause-once c = line_once c.args.table.now
