use Rattle.std.proofs.Common.{rules}
use Rattle.mh_tabfile_read.proofs.numbers.has_zero_first.Goals as goal

pub returns-in-len2-up : goal.returns-in-len2-up
returns-in-len2-up c = search rules
