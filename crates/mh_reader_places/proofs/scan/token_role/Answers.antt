use Rattle.std.proofs.Common.{sym}
use Rattle.mh_reader_places.proofs.ScanSteps.{token_role-other}
use Rattle.mh_reader_places.proofs.scan.token_role.Goals as goal

pub returns-in_default : goal.returns-in_default
returns-in_default c = sym (token_role-other c.args.sign c.in_default.not-Word c.in_default.not-Quoted)
