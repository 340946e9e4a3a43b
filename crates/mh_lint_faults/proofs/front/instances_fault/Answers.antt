use Rattle.mh_lint_faults.proofs.ReportsAt.{instances_examined}
use Rattle.mh_lint_faults.proofs.front.instances_fault.Goals as goal

pub returns-clause-examined : goal.returns-clause-examined
returns-clause-examined c = instances_examined c.args.files c.args.fault c.in_ok-findings.findings c.requires.cause c.in_ok-findings.ensures
