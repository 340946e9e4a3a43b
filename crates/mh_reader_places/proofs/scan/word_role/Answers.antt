use Rattle.std.proofs.Common.{sym}
use Rattle.mh_reader_places.proofs.ScanSteps.{word_role-other}
use Rattle.mh_reader_places.proofs.scan.word_role.Goals as goal

pub returns-in_default : goal.returns-in_default
returns-in_default c = sym (word_role-other c.args.sign c.args.role c.in_default.not-Word)
