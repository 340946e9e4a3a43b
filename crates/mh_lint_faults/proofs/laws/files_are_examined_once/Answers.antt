use Rattle.mh_lint_faults.proofs.FaultLinesUnique.{accepted_faultless, accepted_once, fault_lines_once}
use Rattle.mh_lint_faults.proofs.laws.files_are_examined_once.Goals as goal

pub returns-clause-faulty : goal.returns-clause-faulty
returns-clause-faulty c = fault_lines_once

pub returns-clause-accepted : goal.returns-clause-accepted
returns-clause-accepted c = accepted_once

pub returns-clause-not_both : goal.returns-clause-not_both
returns-clause-not_both c = accepted_faultless
