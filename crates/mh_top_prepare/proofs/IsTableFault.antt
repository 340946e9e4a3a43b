-- Proves that the code refuses a table file exactly as the definition of the stage says.
use Rattle.std.specs.Prelude.{Err}
use Rattle.mh_tabfile_form.specs.declared.types.RawTable.{RawTable}
use Rattle.mh_tabfile_read.specs.declared.reading.TabFault.{TabFault}
use Rattle.mh_grammar.specs.Text.{Text}
use Rattle.mh_top_drive.specs.code.StageCalls.{StageGives, StopsWith}
use Rattle.mh_top_drive.specs.declared.stop.Cause.TheVariants.{Refused}
use Rattle.mh_top_drive.specs.declared.stop.Stop.{Stop}
use Rattle.mh_top_drive.specs.declared.stop.Stop.TheVariants.{Halted, ShelfFailed, InputFailed, WriteFailed, OutOfMemory}
use Rattle.mh_top_prepare.specs.TableFileContent.{HasTableFault, IsTableFile}
use Rattle.mh_top_prepare.specs.TableFileTexts.{table_fault_line}

pub rejected_so : (name bytes : Text) (fault : TabFault) (stop : Stop) → HasTableFault bytes fault → StopsWith (Refused (table_fault_line name fault)) stop → StageGives {A = RawTable} (IsTableFile name bytes) (Err stop)
rejected_so name bytes fault (Halted cause) has halts = record { fault = fault; has_fault = has; cause_is = halts }
rejected_so name bytes fault OutOfMemory has halts = tt
rejected_so name bytes fault (ShelfFailed other) has halts = absurd halts
rejected_so name bytes fault InputFailed has halts = absurd halts
rejected_so name bytes fault WriteFailed has halts = absurd halts
