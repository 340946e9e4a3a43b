use Rattle.mh_tabfile_read.proofs.BadLineUnique.{one_bad_line}
use Rattle.mh_tabfile_read.proofs.ReadingUnique.{no_bad, no_other}
use Rattle.mh_tabfile_read.proofs.laws.fault_is_unique.Goals as goal

pub returns-clause-line : goal.returns-clause-line
returns-clause-line c = λ n m h k. one_bad_line c.args.bytes.now n m h k

pub returns-clause-formed : goal.returns-clause-formed
returns-clause-formed c = λ raw f. (λ n h. no_bad c.args.bytes.now raw n f h, λ h. no_other c.args.bytes.now raw f h)
