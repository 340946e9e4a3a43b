use Rattle.std.proofs.Common.{sym}
use Rattle.mh_reader_places.proofs.ScanSteps.{reference_of-other}
use Rattle.mh_reader_places.proofs.reading.reference_of.Goals as goal

pub returns-in_default : goal.returns-in_default
returns-in_default c = sym (reference_of-other c.args.sign c.args.text.now c.in_default.not-Word c.in_default.not-Quoted c.in_default.not-Question c.in_default.not-Star c.in_default.not-Plus)
