use Rattle.mh_lint_faults.proofs.JoinFaultsHaveLines.{no_join_fault}
use Rattle.mh_lint_faults.proofs.laws.join_faults_have_lines.Goals as goal

pub returns : goal.returns
returns c = no_join_fault
