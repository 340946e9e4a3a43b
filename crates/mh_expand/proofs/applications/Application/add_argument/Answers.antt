use Rattle.std.proofs.Common.{rules}
use Rattle.mh_expand.proofs.applications.Application.add_argument.Goals as goal

pub returns : goal.returns
returns c = search rules
