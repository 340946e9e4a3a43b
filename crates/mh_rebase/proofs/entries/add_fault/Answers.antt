use Rattle.std.proofs.Common.{◌∙◌, append_assoc}
use Rattle.std.proofs.lemmas.Result.{on_ok_weaker}
use Rattle.mh_rebase.specs.RebasedText.{dropped_title, reason_text}
use Rattle.mh_rebase.proofs.entries.add_fault.Goals as goal

pub returns-clause-dropped : goal.returns-clause-dropped
returns-clause-dropped c =
    on_ok_weaker c.write_dropped.result
    (λ written. record { reason = c.in_ok-reason.reason; is = c.in_ok-reason.ensures; drops = written ∙ append_assoc c.args.parts.now.dropped.items (dropped_title c.args.line) (reason_text c.in_ok-reason.reason) })
    c.write_dropped.ensures
