use Rattle.std.proofs.Common.{length}
use Rattle.mh_surface.proofs.checkpoints_and_sessions.+are_known.Given as goal

abbrev pub decreases-are_known : goal.decreases-are_known
decreases-are_known l = length l.commands.now
