use Rattle.std.proofs.Common.{subst, sym}
use Rattle.mh_front.proofs.StageFaults.{inline_fault}
use Rattle.mh_front.specs.Stages.{HasCauseOrMemory, IsJoinedFault}
use Rattle.mh_lint_faults.proofs.ReportsAt.{accepted_examined, accepted_ready}
use Rattle.mh_lint_faults.proofs.front.with_expanded.Goals as goal

pub returns-in-Ok-clause-examined : goal.returns-in-Ok-clause-examined
returns-in-Ok-clause-examined c = accepted_examined c.args.files c.args.expanded c.in-Ok.grammar c.requires.expands c.in-Ok.ensures.grammar

pub returns-in-Ok-clause-ready : goal.returns-in-Ok-clause-ready
returns-in-Ok-clause-ready c = accepted_ready c.args.files c.args.expanded c.in-Ok.grammar c.requires.joined c.requires.expanded c.in-Ok.ensures.grammar

pub instances_fault-requires-clause-cause : goal.instances_fault-requires-clause-cause
instances_fault-requires-clause-cause c =
    let j = c.args.files.joined in
    subst (HasCauseOrMemory (IsJoinedFault j)) (sym c.from.ensures) (inline_fault j c.args.expanded c.in-Err.fault c.requires.expands c.in-Err.ensures.fault)
