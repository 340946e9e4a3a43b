use Rattle.std.proofs.Common.{ap, sym}
use Rattle.mh_top_prepare.specs.Warnings.{is_warned}
use Rattle.mh_top_prepare.proofs.warning.is_warned.Goals as goal

pub returns-in-Stream : goal.returns-in-Stream
returns-in-Stream c = sym (ap is_warned c.in-Stream.is)
