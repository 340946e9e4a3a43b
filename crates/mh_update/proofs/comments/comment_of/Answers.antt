use Rattle.std.proofs.Common.{rules}
use Rattle.mh_update.proofs.comments.comment_of.Goals as goal

pub returns : goal.returns
returns g c = search rules
