use Rattle.std.proofs.Common.{rules}
use Rattle.mh_opts.proofs.modes.with_one.Goals as goal

pub returns-in-One : goal.returns-in-One
returns-in-One c = search rules
