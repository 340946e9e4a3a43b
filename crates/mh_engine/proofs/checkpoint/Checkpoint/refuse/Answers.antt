use Rattle.std.proofs.Common.{rules}
use Rattle.mh_engine.proofs.checkpoint.Checkpoint.refuse.Goals as goal

pub returns : goal.returns
returns c = search rules
