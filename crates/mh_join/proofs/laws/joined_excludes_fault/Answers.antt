use Rattle.mh_join.proofs.JoinedReady.{joined_or_fault}
use Rattle.mh_join.proofs.laws.joined_excludes_fault.Goals as goal

pub returns : goal.returns
returns c = joined_or_fault c.args.prelude c.args.modules.now c.args.joined.now c.args.fault.now c.requires.joined c.requires.fault
