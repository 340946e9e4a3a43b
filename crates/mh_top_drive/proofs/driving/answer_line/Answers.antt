use Rattle.mh_top_drive.proofs.LineCalls.{answer_ran}
use Rattle.mh_top_drive.proofs.driving.answer_line.Goals as goal

pub returns-clause-text : goal.returns-clause-text
returns-clause-text g c = λ plan is.
    let p = c.in_ok-text.ensures plan is in
    (p.0, p.1, answer_ran g.M.Mode.behavior plan p.0 _ c.in_ok-text.text.items _ _ _ c.write_text.result c.deref.ensures.value p.2 c.write_text.ensures.text)
