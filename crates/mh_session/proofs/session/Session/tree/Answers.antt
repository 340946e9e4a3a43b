use Rattle.std.proofs.Common.{rules}
use Rattle.mh_session.proofs.session.Session.tree.Goals as goal

pub returns-in-None : goal.returns-in-None
returns-in-None c = search rules
