use Rattle.std.proofs.Common.{ap}
use Rattle.mh_engine.specs.Positions.{Position}
use Rattle.mh_engine.proofs.PhaseMoves.{no_shift_waiting}
use Rattle.mh_engine.proofs.checkpoint.Checkpoint.phase.Goals as goal

pub unreachable-requires : goal.unreachable-requires
unreachable-requires c = no_shift_waiting c.args.self.now c.self.inside.pending c.in-Shift.field-0 c.in-None.is (ap (λ (p : Position). p.left) c.self.view_is) c.in-Shift.ensures
