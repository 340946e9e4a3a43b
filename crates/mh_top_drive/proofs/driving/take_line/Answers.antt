use Rattle.mh_top_drive.proofs.LineCalls.{line_err, line_none, line_ok, line_stop}
use Rattle.mh_top_drive.proofs.driving.take_line.Goals as goal

pub returns-in-Ok-None-clause-ran : goal.returns-in-Ok-None-clause-ran
returns-in-Ok-None-clause-ran g c = λ plan is. (plan, is, line_none g.M.Mode.behavior plan _ _ _ (rw c.in-Ok-None.field-0-is at c.in-Ok-None.ensures.line))

pub returns-in-Ok-clause-ran : goal.returns-in-Ok-clause-ran
returns-in-Ok-clause-ran g c = λ plan is.
    let took = rw c.in-Ok-Some.field-0-is at c.in-Ok-Some.ensures.line in
    let p = c.in-Ok.ensures.text plan is in
    (p.0, p.1, line_ok g.M.Mode.behavior plan p.0 _ _ _ _ c.in-Ok-Some.line.items _ c.deref.ensures.value took p.2)

pub returns-in-Ok-Some-clause-ran : goal.returns-in-Ok-Some-clause-ran
returns-in-Ok-Some-clause-ran g c = λ plan is.
    let took = rw c.in-Ok-Some.field-0-is at c.in-Ok-Some.ensures.line in
    let p = c.in-Err-answer_line.ensures.text plan is in
    (p.0, p.1, line_err g.M.Mode.behavior plan p.0 _ _ _ _ c.in-Ok-Some.line.items _ c.deref.ensures.value took c.in-Err-answer_line.stop p.2)

pub returns-clause-ran : goal.returns-clause-ran
returns-clause-ran g c = λ plan is. (plan, is, line_stop g.M.Mode.behavior plan _ _ _ c.in-Err.stop c.in-Err.ensures.line)
