use Rattle.std.proofs.Common.{refl}
use Rattle.mh_top_drive.proofs.LineCalls.{text_ran}
use Rattle.mh_top_plans.specs.Plan.{IsFinalOutput, Shortest}
use Rattle.mh_top_modes.proofs.sentences.ShortestWordsWriter.write.Goals as goal

pub returns-clause-text : goal.returns-clause-text
returns-clause-text g c = text_ran (IsFinalOutput (Shortest c.args.self.prepared.now)) c.in_ok-text.text _ _ _ c.write_text.result (refl, c.in_ok-text.ensures) c.as_slice.ensures c.write_text.ensures.text
