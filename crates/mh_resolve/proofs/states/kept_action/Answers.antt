use Rattle.std.proofs.Common.{refl}
use Rattle.mh_resolve.proofs.states.kept_action.Goals as goal

pub returns-then-stream : goal.returns-then-stream
returns-then-stream c = rw c.if-stream.true refl
