use Rattle.std.proofs.Common.{rules}
use Rattle.mh_join_faults.proofs.duplicates.check_level.Goals as goal

pub returns : goal.returns
returns c = search rules
