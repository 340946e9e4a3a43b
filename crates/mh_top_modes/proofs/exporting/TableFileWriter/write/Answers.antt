use Rattle.std.proofs.Common.{ap}
use Rattle.mh_top_drive.proofs.LineCalls.{text_ran}
use Rattle.mh_top_plans.specs.Plan.{IsFinalOutput, Known, table_file_text}
use Rattle.mh_top_plans.specs.FinalText.{end_of_final_text}
use Rattle.mh_top_plans.specs.declared.at_end.FinalText.TheVariants.{Written}
use Rattle.mh_top_modes.proofs.exporting.TableFileWriter.write.Goals as goal

pub returns-clause-text : goal.returns-clause-text
returns-clause-text g c =
    text_ran (IsFinalOutput (Known (end_of_final_text (Written (table_file_text c.args.self.prepared.now))))) c.in_ok-text.text _ _ _ c.write_text.result (ap (λ text. end_of_final_text (Written text)) c.in_ok-text.ensures) c.as_slice.ensures c.write_text.ensures.text
