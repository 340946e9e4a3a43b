use Rattle.std.proofs.Common.{rules}
use Rattle.mh_top_prepare.proofs.warning.warn.Goals as goal

pub returns-clause-text : goal.returns-clause-text
returns-clause-text g c = search rules
