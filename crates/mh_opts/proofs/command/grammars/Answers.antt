use Rattle.std.proofs.Common.{rules}
use Rattle.mh_opts.proofs.command.grammars.Goals as goal

pub returns-clause-rule : goal.returns-clause-rule
returns-clause-rule c = search rules
