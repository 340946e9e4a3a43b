use Rattle.mh_top_drive.proofs.AskLoop.{end_ran}
use Rattle.mh_top_drive.proofs.driving.drive.Goals as goal

pub end-requires : goal.end-requires
end-requires g c =
    let p = c.requires.some in
    let q = c.in-Ok.ensures.ran p.0 p.1 in record { some = (q.0, q.1); may_write = c.in-Ok.ensures.may_write_on }

pub returns-in-Ok-clause-ran : goal.returns-in-Ok-clause-ran
returns-in-Ok-clause-ran g c = λ plan is.
    let q = c.in-Ok.ensures.ran plan is in end_ran g.M.Mode.behavior plan q.0 _ _ _ _ _ q.2 c.end.result (c.end.ensures.text q.0 q.1)

pub returns-in-Err-clause-ran : goal.returns-in-Err-clause-ran
returns-in-Err-clause-ran g c = λ plan is. (c.in-Err.ensures.ran plan is).2
