use Rattle.mh_top_plans.proofs.OpenedAndRan.{opened_followed, opened_read}
use Rattle.mh_top_modes.proofs.judging.interpret.Goals as goal

pub returns-clause-ran : goal.returns-clause-ran
returns-clause-ran g c = opened_followed _ _ _ _ _ _ _ c.drive_opened.result c.judge_by-opened.result c.judge_by-opened.ensures.opens c.drive_opened.ensures.ran

pub returns-clause-read : goal.returns-clause-read
returns-clause-read g c = opened_read _ _ _ c.judge_by-opened.result _ _ _ _ _ _ c.drive_opened.result c.judge_by-opened.ensures.opens c.judge_by-opened.ensures.counts c.drive_opened.ensures.ran
