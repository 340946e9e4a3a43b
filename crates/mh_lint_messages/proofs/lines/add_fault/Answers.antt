use Rattle.std.proofs.lemmas.Result.{on_ok_weaker}
use Rattle.mh_lint_messages.proofs.lines.add_fault.Goals as goal

pub returns-clause-fault : goal.returns-clause-fault
returns-clause-fault c = on_ok_weaker c.add_reason.result (λ written. record { reason = c.in_ok-reason.reason; is = c.in_ok-reason.ensures; written = written }) c.add_reason.ensures.text
