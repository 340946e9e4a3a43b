use Rattle.std.proofs.Common.{rules}
use Rattle.mh_engine.proofs.checkpoint.begin.Goals as goal

pub returns-clause-value : goal.returns-clause-value
returns-clause-value c = search rules

pub returns-clause-branch : goal.returns-clause-branch
returns-clause-branch c = search rules
