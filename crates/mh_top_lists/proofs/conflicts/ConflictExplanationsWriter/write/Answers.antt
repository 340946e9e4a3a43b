use Rattle.std.proofs.Common.{refl}
use Rattle.mh_top_drive.proofs.LineCalls.{text_ran}
use Rattle.mh_top_plans.specs.Plan.{Conflicts, IsFinalOutput}
use Rattle.mh_top_lists.proofs.conflicts.ConflictExplanationsWriter.write.Goals as goal

pub returns-clause-text : goal.returns-clause-text
returns-clause-text g c = text_ran (IsFinalOutput (Conflicts c.args.self.prepared.now)) c.in_ok-text.text _ _ _ c.write_text.result (refl, c.in_ok-text.ensures) c.as_slice.ensures c.write_text.ensures.text
