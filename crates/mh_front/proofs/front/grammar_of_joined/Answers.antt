use Rattle.std.proofs.Common.{sym, subst}
use Rattle.mh_front.specs.Stages.{HasCauseOrMemory, IsJoinedFault}
use Rattle.mh_front.proofs.StageFaults.{inline_fault}
use Rattle.mh_front.proofs.front.grammar_of_joined.Goals as goal

pub returns-in-Ok-clause-fault : goal.returns-in-Ok-clause-fault
returns-in-Ok-clause-fault c =
    let j = c.args.joined in
    let fault = inline_fault j c.in-Ok.expanded c.in-Err-inline_rules.fault c.in-Ok.ensures.ok c.in-Err-inline_rules.ensures.fault in
    subst (HasCauseOrMemory (IsJoinedFault j)) (sym c.from.ensures) fault
