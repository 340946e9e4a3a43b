use Rattle.mh_top_plans.proofs.OpenedAndRan.{opened_followed}
use Rattle.mh_top_modes.proofs.serving.run_session.Goals as goal

pub returns-clause-ran : goal.returns-clause-ran
returns-clause-ran g c = opened_followed _ _ _ _ _ _ _ c.drive_opened.result c.serve_on-opened.result c.serve_on-opened.ensures c.drive_opened.ensures.ran
