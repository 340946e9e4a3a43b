use Rattle.mh_join.proofs.JoinedReady.{ready_if_joined}
use Rattle.mh_join.proofs.joining.join.Goals as goal

pub returns-in-Ok-clause-ready : goal.returns-in-Ok-clause-ready
returns-in-Ok-clause-ready c = ready_if_joined c.args.prelude c.args.modules.now c.join_with.result c.join_with.ensures c.requires
