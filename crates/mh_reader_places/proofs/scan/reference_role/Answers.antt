use Rattle.std.proofs.Common.{sym}
use Rattle.mh_reader_places.proofs.ScanSteps.{reference_role-other}
use Rattle.mh_reader_places.proofs.scan.reference_role.Goals as goal

pub returns-in_default : goal.returns-in_default
returns-in_default c = sym (reference_role-other c.args.sign c.args.role c.in_default.not-Word c.in_default.not-Quoted)
