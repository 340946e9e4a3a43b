use Rattle.std.proofs.Common.{subst, sym}
use Rattle.mh_front.proofs.StageFaults.{expand_fault}
use Rattle.mh_front.specs.Stages.{HasCauseOrMemory, IsJoinedFault}
use Rattle.mh_lint_faults.proofs.front.with_joined.Goals as goal

pub instances_fault-requires-clause-cause : goal.instances_fault-requires-clause-cause
instances_fault-requires-clause-cause c =
    let j = c.args.files.joined in
    subst (HasCauseOrMemory (IsJoinedFault j)) (sym c.from.ensures) (expand_fault j c.in-Err.fault c.in-Err.ensures.err)
