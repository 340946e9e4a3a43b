use Rattle.std.proofs.Common.{rules}
use Rattle.mh_tabfile_read.proofs.reading.is_other_number.Goals as goal

pub returns-then-number-ne1 : goal.returns-then-number-ne1
returns-then-number-ne1 c = search rules

pub returns-else-number-ne1 : goal.returns-else-number-ne1
returns-else-number-ne1 c = search rules
