use Rattle.std.proofs.Common.{◌∙◌, ap}
use Rattle.mh_engine.specs.Positions.{Position}
use Rattle.mh_engine.proofs.OneMoreStep.{resumed_table}
use Rattle.mh_surface.proofs.checkpoints_and_sessions.resumed.Goals as goal

pub returns-in-Ok : goal.returns-in-Ok
returns-in-Ok c = ap (λ (p : Position). p.table) c.in-Ok.ensures.value ∙ resumed_table c.args.checkpoint.now
